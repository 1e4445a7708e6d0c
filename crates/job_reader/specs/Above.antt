-- What the lines above a line say.
use Rattle.std.specs.Prelude.{ℕ, ◌+◌, Bool, true, false, if◌then◌else◌, List, [], ◌∷◌, Option, None}
use Rattle.job_reader.specs.Words.{Word}
use Rattle.task_code.specs.Tree.{Block, Done}
use Rattle.task_code.specs.Open.{Frame, InIf}
use Rattle.task_code.specs.Limits.{is_statement}
use Rattle.task_code.specs.declared.code.Line.{Line}
use Rattle.task_code.specs.declared.code.Line.TheVariants as line
use Rattle.job_reader.specs.Trees.{BodyTree, JobTree}

-- a body that is open: its locals so far, its open lines, the innermost first, the statements after that, and how many
-- statements it has
pub record Inside : Type 0 where
  pub name : Word
  pub locals : List Word
  pub frames : List Frame
  pub block : Block
  pub statements : ℕ

-- the job so far, the open body, and the first line that names a body that doesn't exist
pub record Above : Type 0 where
  pub job : JobTree
  pub inside : Option Inside
  pub missing : Option ℕ

-- a job of this format with nothing in it
abbrev pub nothing : ℕ → Above
nothing format = record { job = record { format = format; arrays = []; bodies = []; starts = [] }; inside = None; missing = None }

-- an `else` wants an `if` without one as the innermost open line
abbrev pub can_else : List Frame → Bool
can_else (InIf e before ∷ fs) = true
can_else _ = false

-- a body after its first line: its name, and the locals that the line lists
abbrev pub begun : Word × List Word → Inside
begun head = record { name = head.0; locals = head.1; frames = []; block = Done; statements = 0 }

-- the number of statements after a line
abbrev pub statements_behind : ℕ → Line → ℕ
statements_behind n l = if is_statement l then n + 1 else n

-- the open body after a line that made these open lines and this block
abbrev pub grown : Inside → ℕ → List Frame × Block → Inside
grown o statements s = record { name = o.name; locals = o.locals; frames = s.0; block = s.1; statements = statements }

abbrev pub ended : Inside → BodyTree
ended o = record { name = o.name; locals = o.locals; block = o.block }

-- a line is open in the body
abbrev pub is_nested : List Frame → Bool
is_nested [] = false
is_nested (f ∷ fs) = true

-- whether a line belongs to the open lines: an `else` to an `if` without one, an end to any
abbrev pub belongs : Line → List Frame → Bool
belongs (line.Else n) fs = can_else fs
belongs line.EndIf fs = is_nested fs
belongs (line.EndWhile e n) fs = is_nested fs
belongs _ fs = true

-- whether a line may be here; `fits` says whether an `else` may
abbrev pub sits : Bool → Line → Bool
sits fits (line.Else n) = fits
sits fits _ = true
