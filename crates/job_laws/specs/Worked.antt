-- Jobs worked out: what these leave is written down, and not said by any rule (own; the swap by puts that land at the end of a superstep
-- is BSPlib's, 1998).
use Rattle.std.specs.Prelude.{◌≡◌, ℕ, ℤ, pos, negsuc, List, [], ◌∷◌, Option, Some, codes}
use Rattle.phase_records.specs.PrintValue.{PrintValue}
use Rattle.phase_records.specs.ReportValue.{ReportValue}
use Rattle.phase_records.specs.Status.{Status, Ended, Fault, Limit}
use Rattle.phase_records.specs.declared.record.PhaseRecord.{PhaseRecord}
use Rattle.task_code.specs.declared.job.Start.{Start}
use Rattle.task_code.specs.declared.code.Index.TheVariants.{Number, Local, Arg}
use Rattle.superstep_memory.specs.declared.arrays.PutKind.TheVariants.{Set, Add as Plus}
use Rattle.task_code.specs.declared.code.Index.{Index}
use Rattle.task_code.specs.declared.code.Cell.{Cell}
use Rattle.task_code.specs.declared.code.Operand.{Operand}
use Rattle.task_code.specs.declared.code.Operand.TheVariants.{Plain, Cell as At}
use Rattle.task_code.specs.declared.code.Operator.TheVariants.{Add, Subtract, Divide}
use Rattle.task_code.specs.declared.code.Expr.{Expr}
use Rattle.task_code.specs.declared.code.Expr.TheVariants.{One, Two}
use Rattle.task_code.specs.declared.code.Action.TheVariants.{Let, Put, Print, Spawn, Sync}
use Rattle.task_code.specs.Tree.{Block, Done, Do, While}
use Rattle.task_lang.specs.Meaning.{Plan}
use Rattle.step_core.specs.Program.{Program}
use Rattle.step_core.specs.JobMeaning.{report_of}

-- a cell of the first array
abbrev pub cell : Index → Cell
cell i = record { array = 0; index = i }

-- an argument, and a number
abbrev pub arg : Expr
arg = One (Plain Arg)

abbrev pub number : ℤ → Operand
number z = Plain (Number z)

-- what a body says, with this many locals
abbrev pub body : ℕ → Block → Plan
body locals ahead = record { ahead = ahead; locals = locals }

abbrev pub start : ℕ → ℤ → Start
start body arg = record { body = body; arg = arg }

abbrev pub array : List ℤ → List (List ℕ × List ℤ)
array cells = (codes "a", cells) ∷ []

abbrev pub program : List (List ℕ × List ℤ) → List Plan → List Start → Program
program arrays plans starts = record { arrays = arrays; plans = plans; starts = starts }

abbrev pub superstep : ℕ → ℕ → ℕ → ℕ → PhaseRecord
superstep phase parties left spawned = record { phase = phase; parties = parties; left = left; spawned = spawned }

abbrev pub print : ℕ → List ℕ → ℤ → PrintValue
print step path value = record { step = step; path = path; value = value }

abbrev pub report : List PrintValue → List PhaseRecord → List (List ℕ × List ℤ) → Status → Option ReportValue
report prints records arrays status = Some record { prints = prints; records = records; arrays = arrays; status = status }

-- Two tasks have a cell each. Each writes the other's cell into its cell, and prints its cell in the next superstep.
abbrev pub swap : Program
swap = program (array (pos 10 ∷ pos 20 ∷ [])) (body 1 (
    Do (Let 0 (Two (number (pos 1)) Subtract (Plain Arg))) (
    Do (Put Set (cell Arg) (One (At (cell (Local 0))))) (
    Do Sync (
    Do (Print (One (At (cell Arg)))) Done)))) ∷ []) (start 0 (pos 0) ∷ start 0 (pos 1) ∷ [])

-- Two tasks write one cell; the first in path order writes it twice.
abbrev pub conflict : Program
conflict = program (array (pos 0 ∷ [])) (body 0 (
    Do (Put Set (cell (Number (pos 0))) arg) (Do (Put Set (cell (Number (pos 0))) (Two (Plain Arg) Add (number (pos 5)))) Done))
    ∷ body 0 (Do (Put Set (cell (Number (pos 0))) arg) Done) ∷ []) (start 0 (pos 1) ∷ start 1 (pos 9) ∷ [])

-- the same tasks in the other order
abbrev pub other_conflict : Program
other_conflict = record conflict { starts = start 1 (pos 9) ∷ start 0 (pos 1) ∷ [] }

-- A task begins another, which prints its argument in the next superstep.
abbrev pub spawns : Program
spawns = program [] (body 0 (Do (Spawn 1 (One (number (pos 5)))) (Do Sync Done)) ∷ body 0 (Do (Print arg) Done) ∷ []) (start 0 (pos 0) ∷ [])

-- One task puts and prints, the other divides by 0.
abbrev pub faulting : Program
faulting = program (array (pos 7 ∷ [])) (body 0 (Do (Put Set (cell (Number (pos 0))) (One (number (pos 1)))) (Do (Print arg) Done))
    ∷ body 0 (Do (Print (Two (number (pos 1)) Divide (Plain Arg))) Done) ∷ []) (start 0 (pos 3) ∷ start 1 (pos 0) ∷ [])

-- A task that never ends.
abbrev pub forever : Program
forever = program [] (body 0 (While (One (number (pos 1))) (Do Sync Done) Done) ∷ []) (start 0 (pos 0) ∷ [])

-- Three tasks add to one cell.
abbrev pub adding : Program
adding = program (array (pos 100 ∷ [])) (body 0 (Do (Put Plus (cell (Number (pos 0))) arg) Done) ∷ [])
    (start 0 (pos 1) ∷ start 0 (pos 2) ∷ start 0 (pos 3) ∷ [])

-- The first task prints, and adds to a cell that holds the greatest number; the second would take it back.
abbrev pub overflowing : Program
overflowing = program (array (pos 9223372036854775807 ∷ [])) (body 0 (Do (Print arg) (Do (Put Plus (cell (Number (pos 0))) arg) Done)) ∷ [])
    (start 0 (pos 1) ∷ start 0 (negsuc 0) ∷ [])

-- The same tasks in the other order.
abbrev pub in_time : Program
in_time = record overflowing { starts = start 0 (negsuc 0) ∷ start 0 (pos 1) ∷ [] }

-- A sum that overflows under a put that would cover it, and a later task that divides by 0.
abbrev pub faulting_first : Program
faulting_first = program (array (pos 9223372036854775807 ∷ []))
    (body 0 (Do (Put Plus (cell (Number (pos 0))) arg) (Do (Put Set (cell (Number (pos 0))) arg) Done))
    ∷ body 0 (Do (Print (Two (number (pos 1)) Divide (Plain Arg))) Done) ∷ []) (start 0 (pos 1) ∷ start 1 (pos 0) ∷ [])

pub record JobsAreWorkedOut : Type 0 where
  -- both read the array as the superstep began, and both puts land at its end
  pub swapped : report_of swap 10
      ≡ report (print 1 (0 ∷ []) (pos 20) ∷ print 1 (1 ∷ []) (pos 10) ∷ []) (superstep 0 2 0 0 ∷ superstep 1 2 2 0 ∷ [])
      (array (pos 20 ∷ pos 10 ∷ [])) (Ended 2)
  -- the last put of the last path wins
  pub last_wins : report_of conflict 10 ≡ report [] (superstep 0 2 2 0 ∷ []) (array (pos 9 ∷ [])) (Ended 1)
  pub last_put_wins : report_of other_conflict 10 ≡ report [] (superstep 0 2 2 0 ∷ []) (array (pos 6 ∷ [])) (Ended 1)
  -- a spawned task is a party of the superstep that spawns it, and runs in the next
  pub spawned : report_of spawns 10 ≡ report (print 1 (0 ∷ 0 ∷ []) (pos 5) ∷ []) (superstep 0 2 0 1 ∷ superstep 1 2 2 0 ∷ []) [] (Ended 2)
  -- nothing of a superstep that faults stays
  pub faulted : report_of faulting 10 ≡ report [] [] (array (pos 7 ∷ [])) (Fault 2 0 (1 ∷ []))
  -- no more supersteps than the limit
  pub limited : report_of forever 3 ≡ report [] (superstep 0 1 0 0 ∷ superstep 1 1 0 0 ∷ superstep 2 1 0 0 ∷ []) [] (Limit 3)
  -- what is put to one cell adds up
  pub added : report_of adding 10 ≡ report [] (superstep 0 3 3 0 ∷ []) (array (pos 106 ∷ [])) (Ended 1)
  -- nothing of a superstep with a sum that overflows stays, and its fault is that of the task that put it
  pub overflowed : report_of overflowing 10 ≡ report [] [] (array (pos 9223372036854775807 ∷ [])) (Fault 8 0 (0 ∷ []))
  pub fits_in_time : report_of in_time 10
      ≡ report (print 0 (0 ∷ []) (negsuc 0) ∷ print 0 (1 ∷ []) (pos 1) ∷ []) (superstep 0 2 2 0 ∷ []) (array (pos 9223372036854775807 ∷ []))
      (Ended 1)
  -- a put that would cover it doesn't mend it
  pub covered : report_of (record faulting_first { starts = start 0 (pos 1) ∷ [] }) 10
      ≡ report [] [] (array (pos 9223372036854775807 ∷ [])) (Fault 8 0 (0 ∷ []))
  -- a task's fault comes first, also that of a later path
  pub fault_first : report_of faulting_first 10 ≡ report [] [] (array (pos 9223372036854775807 ∷ [])) (Fault 2 0 (1 ∷ []))
