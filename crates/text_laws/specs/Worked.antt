-- A text worked out: what it is read as, and how it is written again, is written down, and not said by any rule (own).
use Rattle.std.specs.Prelude.{◌≡◌, ℕ, pos, negsuc, List, [], ◌∷◌, Ok, Err, codes}
use Rattle.text_lines.specs.declared.refusal.Code.TheVariants.{Unclosed, UnknownName}
use Rattle.superstep_memory.specs.declared.arrays.PutKind.TheVariants.{Set}
use Rattle.task_code.specs.declared.code.Index.{Index}
use Rattle.task_code.specs.declared.code.Index.TheVariants.{Number, Local, Arg, Step}
use Rattle.task_code.specs.declared.code.Cell.{Cell}
use Rattle.task_code.specs.declared.code.Operand.{Operand}
use Rattle.task_code.specs.declared.code.Operand.TheVariants.{Plain, Cell as At}
use Rattle.task_code.specs.declared.code.Operator.TheVariants.{Add, Multiply, Remainder, Below, Equal}
use Rattle.task_code.specs.declared.code.Expr.TheVariants.{One, Two}
use Rattle.task_code.specs.declared.code.Action.TheVariants.{Let, Put, Print, Spawn, Sync, Stop}
use Rattle.task_code.specs.Tree.{Block, Done, Do, IfElse, While}
use Rattle.job_reader.specs.Trees.{JobTree}
use Rattle.job_reader.specs.Grammar.{canonical_text}
use Rattle.job_reader.specs.Reading.{job_in}

-- a text with each statement, a comment and an indented line
abbrev pub worked_text : List ℕ
worked_text =
    codes
    "# one of each\nbsp 1\narray a 2 10 -20\nbody p\n  let i = 0\nwhile i < 2\nspawn q a[i]\nlet i = i + 1\nend\nsync\nend\nbody q\nif arg == 10\nput a[0] = arg * 2\nelse\nput a[step] = a[1] % 7\nend\nprint a[arg]\nstop\nend\nstart p 5\n"

-- the same as it is written
abbrev pub written_text : List ℕ
written_text =
    codes
    "bsp 1\narray a 2 10 -20\nbody p\nlet i = 0\nwhile i < 2\nspawn q a[i]\nlet i = i + 1\nend\nsync\nend\nbody q\nif arg == 10\nput a[0] = arg * 2\nelse\nput a[step] = a[1] % 7\nend\nprint a[arg]\nstop\nend\nstart p 5\n"

-- a cell of the array, and a number
abbrev pub cell : Index → Cell
cell i = record { array = 0; index = i }

abbrev pub number : ℕ → Operand
number n = Plain (Number (pos n))

abbrev pub spawning : Block
spawning =
    Do (Let 0 (One (number 0))) (While (Two (Plain (Local 0)) Below (number 2))
    (Do (Spawn 1 (One (At (cell (Local 0))))) (Do (Let 0 (Two (Plain (Local 0)) Add (number 1))) Done))
    (Do Sync Done))

abbrev pub choosing : Block
choosing =
    IfElse (Two (Plain Arg) Equal (number 10))
    (Do (Put Set (cell (Number (pos 0))) (Two (Plain Arg) Multiply (number 2))) Done)
    (Do (Put Set (cell Step) (Two (At (cell (Number (pos 1)))) Remainder (number 7))) Done)
    (Do (Print (One (At (cell Arg)))) (Do Stop Done))

abbrev pub worked_job : JobTree
worked_job = record {
  format = 1;
  arrays = (codes "a", pos 10 ∷ negsuc 19 ∷ []) ∷ [];
  bodies =
      record { name = codes "p"; locals = codes "i" ∷ []; block = spawning } ∷ record { name = codes "q"; locals = []; block = choosing }
      ∷ [];
  starts = record { body = 0; arg = pos 5 } ∷ [];
}

pub record TextsAreWorkedOut : Type 0 where
  pub read : job_in worked_text ≡ Ok worked_job
  pub written : canonical_text worked_job ≡ written_text
  -- a body that no line ends, and a local that no line gave a value
  pub unclosed : job_in (codes "bsp 1\nbody b\nsync\n") ≡ Err (record { line = 4; code = Unclosed })
  pub unknown : job_in (codes "bsp 1\nbody b\nspawn c 1\nend\n") ≡ Err (record { line = 3; code = UnknownName })
