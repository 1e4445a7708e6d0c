-- What the job so far and its open body keep while lines are read: all limits, distinct names, numbers that fit.
use Rattle.std.specs.Prelude.{◌≡◌, ◌≤◌, ◌<◌, ℕ, true, false, List, [], ◌∷◌, length, Option, Some, None, Result, Ok}
use Rattle.std.specs.List.{list_all}
use Rattle.text_lines.specs.Number.{fits_i64}
use Rattle.text_lines.specs.declared.refusal.Refusal.{Refusal}
use Rattle.task_code.specs.Names.{is_free, is_among, are_names}
use Rattle.task_code.specs.Mentions.{mentions, mentioned, are_below}
use Rattle.task_code.specs.Limits.{statements, opened, deepest, is_of_first, fits_line}
use Rattle.task_code.specs.Rules.{IsBody, IsOfFirst, is_format, is_array}
use Rattle.task_code.specs.Tree.{Block}
use Rattle.task_code.specs.Open.{Frame, open_code}
use Rattle.task_code.specs.declared.code.Line.{Line}
use Rattle.job_reader.specs.Words.{Word}
use Rattle.job_reader.specs.Trees.{BodyTree, JobTree, array_names, body_names}
use Rattle.job_reader.specs.Above.{Inside, Above, belongs, ended}
use Rattle.job_reader.specs.Legal.{flat_body, IsJobTree}
use Rattle.job_reader.specs.Limits.{most_starts}
use Rattle.job_reader.specs.Relates.{IsSoFar, IsInside, IsOpened, IsAt}
use Rattle.job_reader.specs.Reading.{finished}
use Rattle.job_reader.specs.declared.inside.OpenBody.{OpenBody}
use Rattle.job_reader.specs.declared.so_far.SoFar.{SoFar}
use Rattle.job_reader.specs.declared.state.State.{State}

-- bodies of a job of this format
abbrev pub KeptBody : ℕ → BodyTree → Type 0
KeptBody format b = IsBody (flat_body b) × (format ≡ 1 → IsOfFirst (flat_body b))

abbrev pub AreKept : ℕ → List BodyTree → Type 0
AreKept format [] = Unit {0}
AreKept format (b ∷ bs) = KeptBody format b × AreKept format bs

-- the job so far
pub record KeptJob (j : JobTree) : Type 0 where
  pub format : is_format j.format ≡ true
  pub few_arrays : length j.arrays ≤ 16
  pub few_bodies : length (body_names j) ≤ 64
  pub few_starts : length j.starts ≤ most_starts
  pub arrays : list_all is_array j.arrays ≡ true
  pub arrays_named : are_names (array_names j) ≡ true
  pub cells : list_all (λ a. list_all fits_i64 a.1) j.arrays ≡ true
  pub bodies_named : are_names (body_names j) ≡ true
  pub bodies : AreKept j.format j.bodies
  pub args : list_all (λ s. fits_i64 s.arg) j.starts ≡ true

-- the number of open lines after code, with `k` open before it
abbrev pub open_behind : ℕ → List Line → ℕ
open_behind k [] = k
open_behind k (l ∷ ls) = open_behind (opened k l) ls

-- an open body of `n` statements is within the limits, and its numbers fit
pub record Counted (fs : List Frame) (b : Block) (n : ℕ) : Type 0 where
  pub counts : statements (open_code fs b) ≡ n
  pub few : n ≤ 1024
  pub open_lines : open_behind 0 (open_code fs b) ≡ length fs
  pub shallow : deepest 0 (open_code fs b) ≤ 16
  pub numbers : list_all fits_line (open_code fs b) ≡ true

-- in format 1 the locals so far are those that these lines mention, by first mention, and no line is an add
pub record KeptFirst (locals : List Word) (code : List Line) : Type 0 where
  pub order : mentioned 0 (mentions code) ≡ Some (length locals)
  pub lines : list_all is_of_first code ≡ true

-- the open body
pub record KeptOpen (j : JobTree) (o : Inside) : Type 0 where
  pub name : is_free o.name ≡ true
  pub new : is_among (body_names j) o.name ≡ false
  pub capacity : length (body_names j) < 64
  pub locals : are_names o.locals ≡ true
  pub few : length o.locals ≤ 32
  pub mentions : are_below (length o.locals) (mentions (open_code o.frames o.block)) ≡ true
  pub first : j.format ≡ 1 → KeptFirst o.locals (open_code o.frames o.block)
  pub counted : Counted o.frames o.block o.statements

abbrev pub KeptAt : JobTree → Option Inside → Type 0
KeptAt j None = KeptJob j
KeptAt j (Some o) = KeptJob j × KeptOpen j o

-- no line is open, and what is read is a body
pub record IsWhole (o : Inside) : Type 0 where
  pub closed : o.frames ≡ []
  pub body : IsBody (flat_body (ended o))

-- a line that belongs to no open line ends a body
abbrev pub EndsWhole : Inside → Line → Type 0
EndsWhole o l = belongs l o.frames ≡ false → IsWhole o

-- the reader has a job so far
abbrev pub HasSoFar : SoFar → Type 0
HasSoFar r = (j : JobTree) × IsSoFar j r

-- and an open body or none, and they are kept so
abbrev pub HasKept : SoFar → Option OpenBody → Type 0
HasKept r w = (j : JobTree) × (i : Option Inside) × IsSoFar j r × IsOpened i w × KeptAt j i

abbrev pub HasKeptInside : SoFar → OpenBody → Type 0
HasKeptInside r w = HasKept r (Some w)

-- the reader has an open body that is whole, or will be if this line ends it
abbrev pub HasWhole : OpenBody → Type 0
HasWhole w = (o : Inside) × IsInside o w × IsWhole o

abbrev pub HasEnding : OpenBody → Line → Type 0
HasEnding w l = (o : Inside) × IsInside o w × EndsWhole o l

-- what is read, if anything, is a job
abbrev pub SaysJobs : Result JobTree Refusal → Type 0
SaysJobs read = (j : JobTree) → read ≡ Ok j → IsJobTree j

-- the reader has a job; or one at the end of the text, unless it is refused there
abbrev pub HasJob : SoFar → Type 0
HasJob r = (j : JobTree) × IsSoFar j r × IsJobTree j

abbrev pub HasEnd : ℕ → State → Type 0
HasEnd line s = (a : Above) × IsAt a s × SaysJobs (finished line a a.inside a.missing)
