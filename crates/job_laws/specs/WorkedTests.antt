-- What negative numbers are as tests and as indices, worked out (own).
use Rattle.std.specs.Prelude.{◌≡◌, ℤ, pos, negsuc, [], ◌∷◌}
use Rattle.phase_records.specs.Status.{Ended, Fault}
use Rattle.superstep_memory.specs.declared.arrays.PutKind.TheVariants.{Set, Add as Plus}
use Rattle.task_code.specs.declared.code.Index.TheVariants.{Number, Local}
use Rattle.task_code.specs.declared.code.Operand.TheVariants.{Cell as At}
use Rattle.task_code.specs.declared.code.Operator.TheVariants.{Add}
use Rattle.task_code.specs.declared.code.Expr.{Expr}
use Rattle.task_code.specs.declared.code.Expr.TheVariants.{One, Two}
use Rattle.task_code.specs.declared.code.Action.TheVariants.{Let, Put, Print}
use Rattle.task_code.specs.Tree.{Block, Done, Do, If, IfElse, While}
use Rattle.step_core.specs.Program.{Program}
use Rattle.step_core.specs.JobMeaning.{report_of}
use Rattle.job_laws.specs.Worked.{cell, number, array, superstep, print, report}
use Rattle.job_laws.specs.WorkedFaults.{alone, local}
use Rattle.job_laws.specs.WorkedOperators.{least}

-- a number as a test
abbrev pub test : ℤ → Expr
test z = One (number z)

abbrev pub prints : ℤ → Block
prints z = Do (Print (One (number z))) Done

-- prints 1 if this number is a yes, else 2
abbrev pub asks : ℤ → Program
asks z = alone 0 (IfElse (test z) (prints (pos 1)) (prints (pos 2)) Done)

-- prints 1 if this number is a yes
abbrev pub asks_once : ℤ → Program
asks_once z = alone 0 (If (test z) (prints (pos 1)) Done)

-- a local has this value, and then come these statements
abbrev pub where_local : ℤ → Block → Program
where_local z ahead = alone 1 (Do (Let 0 (One (number z))) ahead)

-- prints a local and counts it up, as long as it is a yes
abbrev pub counts_up : Block
counts_up = While (One (local 0)) (Do (Print (One (local 0))) (Do (Let 0 (Two (local 0) Add (number (pos 1)))) Done)) Done

pub record TestsAreWorkedOut : Type 0 where
  -- each number but 0 is a yes
  pub above : report_of (asks (pos 5)) 10 ≡ report (print 0 (0 ∷ []) (pos 1) ∷ []) (superstep 0 1 1 0 ∷ []) (array (pos 7 ∷ [])) (Ended 1)
  pub zero : report_of (asks (pos 0)) 10 ≡ report (print 0 (0 ∷ []) (pos 2) ∷ []) (superstep 0 1 1 0 ∷ []) (array (pos 7 ∷ [])) (Ended 1)
  pub below : report_of (asks (negsuc 0)) 10
      ≡ report (print 0 (0 ∷ []) (pos 1) ∷ []) (superstep 0 1 1 0 ∷ []) (array (pos 7 ∷ [])) (Ended 1)
  pub far_below : report_of (asks least) 10 ≡ report (print 0 (0 ∷ []) (pos 1) ∷ []) (superstep 0 1 1 0 ∷ []) (array (pos 7 ∷ [])) (Ended 1)
  pub once_zero : report_of (asks_once (pos 0)) 10 ≡ report [] (superstep 0 1 1 0 ∷ []) (array (pos 7 ∷ [])) (Ended 1)
  pub once_below : report_of (asks_once (negsuc 0)) 10
      ≡ report (print 0 (0 ∷ []) (pos 1) ∷ []) (superstep 0 1 1 0 ∷ []) (array (pos 7 ∷ [])) (Ended 1)
  pub while_below : report_of (where_local (negsuc 1) counts_up) 10
      ≡ report (print 0 (0 ∷ []) (negsuc 1) ∷ print 0 (0 ∷ []) (negsuc 0) ∷ []) (superstep 0 1 1 0 ∷ []) (array (pos 7 ∷ [])) (Ended 1)
  -- no negative number is an index
  pub read_below : report_of (where_local (negsuc 0) (Do (Print (One (At (cell (Local 0))))) Done)) 10
      ≡ report [] [] (array (pos 7 ∷ [])) (Fault 3 0 (0 ∷ []))
  pub test_below : report_of (alone 0 (If (One (At (cell (Number (negsuc 0))))) Done Done)) 10
      ≡ report [] [] (array (pos 7 ∷ [])) (Fault 3 0 (0 ∷ []))
  pub put_below : report_of (where_local (negsuc 0) (Do (Put Set (cell (Local 0)) (One (number (pos 1)))) Done)) 10
      ≡ report [] [] (array (pos 7 ∷ [])) (Fault 3 0 (0 ∷ []))
  pub add_below : report_of (where_local (negsuc 0) (Do (Put Plus (cell (Local 0)) (One (number (pos 1)))) Done)) 10
      ≡ report [] [] (array (pos 7 ∷ [])) (Fault 3 0 (0 ∷ []))
