-- What the reader has, against what the lines above say.
use Rattle.std.specs.Prelude.{◌≡◌, ℕ, List, map, Option, Some, None}
use Rattle.job_reader.specs.Views.{lent}
use Rattle.task_code.specs.Tree.{Block}
use Rattle.task_code.specs.Open.{Frame, IsOpen}
use Rattle.job_reader.specs.declared.inside.OpenBody.{OpenBody}
use Rattle.job_reader.specs.declared.so_far.SoFar.{SoFar}
use Rattle.job_reader.specs.declared.state.State.{State}
use Rattle.job_reader.specs.Trees.{JobTree, array_names, body_names}
use Rattle.job_reader.specs.Legal.{flat_body}
use Rattle.job_reader.specs.Above.{Inside, Above, grown}

-- an open body
pub record IsInside (o : Inside) (w : OpenBody) : Type 0 where
  pub name : w.name.now ≡ o.name
  pub locals : lent w.locals.items ≡ o.locals
  pub built : IsOpen o.frames o.block w.builder
  pub statements : w.statements ≡ o.statements

abbrev pub IsOpened : Option Inside → Option OpenBody → Type 0
IsOpened None None = Unit {0}
IsOpened None (Some w) = ⊥
IsOpened (Some o) None = ⊥
IsOpened (Some o) (Some w) = IsInside o w

-- the job so far
pub record IsSoFar (j : JobTree) (r : SoFar) : Type 0 where
  pub format : r.format ≡ j.format
  pub arrays : r.arrays ≡ j.arrays
  pub array_names : lent r.array_names.items ≡ array_names j
  pub bodies : r.bodies.items ≡ map flat_body j.bodies
  pub body_names : lent r.body_names.items ≡ body_names j
  pub starts : r.starts.items ≡ j.starts

-- the open body after a line, by what the line made of it
abbrev pub IsGrown : Inside → ℕ → Option (List Frame × Block) → OpenBody → Type 0
IsGrown o statements None w = Unit {0}
IsGrown o statements (Some s) w = IsInside (grown o statements s) w

-- the job and the open body after a line
abbrev pub IsBehind : JobTree × Option Inside → SoFar → Option OpenBody → Type 0
IsBehind p r w = IsSoFar p.0 r × IsOpened p.1 w

-- what the reader knows above a line
pub record IsAt (a : Above) (s : State) : Type 0 where
  pub so_far : IsSoFar a.job s.so_far
  pub inside : IsOpened a.inside s.inside
  pub missing : s.missing ≡ a.missing
