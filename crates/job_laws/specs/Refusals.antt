-- Why puts don't land and why a delivery isn't taken: which refusal comes first, and its number (own).
use Rattle.std.specs.Prelude.{◌≡◌, ◌≢◌, ℕ, ℤ, pos, true, false, List, [], ◌∷◌, ◌++◌, length, Some, None}
use Rattle.std.specs.List.{list_all}
use Rattle.smallvec.specs.SmallVec.{SmallVec}
use Rattle.superstep_memory.specs.declared.arrays.Put.{Put}
use Rattle.superstep_memory.specs.declared.landing.LandFault.TheVariants as fault
use Rattle.superstep_memory.specs.Cells.{is_cell}
use Rattle.superstep_memory.specs.Landing.{joined, landed}
use Rattle.superstep_memory.specs.Logs.{NotInOrder, OutOfRange, Overflow, refusal, fault_number}
use Rattle.superstep_memory.specs.Paths.{path_lt}
use Rattle.superstep_memory.specs.Runs.{refusal_of_runs, in_one}
use Rattle.superstep_memory.specs.Worked.{array, set, add, of, most}
use Rattle.step_core.specs.OrderValue.{DeliveryValue}
use Rattle.step_core.specs.RoundValue.{RoundValue}
use Rattle.step_core.specs.Taking.{Refuses, IsOrdered, accept_number, close_number}
use Rattle.step_core.specs.declared.fault.AcceptFault.{AcceptFault}
use Rattle.step_core.specs.declared.fault.CloseFault.TheVariants as close

-- Of these logs that of this path has a put to no cell at this place, from 0; all puts in front of it are to cells.
pub record IsFirstOutside (arrays : List (List ℕ × List ℤ)) (es : List (List ℕ × List Put)) (path : List ℕ) (place : ℕ) : Type 0 where
  pub front : List (List ℕ × List Put)
  pub before : List Put
  pub bad : Put
  pub after : List Put
  pub back : List (List ℕ × List Put)
  pub whole : es ≡ front ++ (path, before ++ bad ∷ after) ∷ back
  pub at : length before ≡ place
  pub inside : list_all (is_cell arrays) (joined front ++ before) ≡ true
  pub outside : is_cell arrays bad ≡ false

-- Paths aren't in order if one doesn't come before the next, whatever the puts. If they are, the first put to no cell
-- counts.
pub record LandingsAreRefusedInOrder : Type 0 where
  pub falling : (arrays : List (List ℕ × List ℤ)) (front back : List (List ℕ × List Put)) (e f : List ℕ × List Put)
      → path_lt e.0 f.0 ≡ false
      → refusal arrays (front ++ e ∷ f ∷ back) ≡ Some NotInOrder
  pub outside : (arrays : List (List ℕ × List ℤ)) (es : List (List ℕ × List Put)) (path : List ℕ) (place : ℕ)
      → refusal arrays es ≡ Some (OutOfRange path place) → IsFirstOutside arrays es path place

-- A delivery of another step is refused with 3, even if it is of another job; one of this step and another job with 1;
-- and one of an order of this round is refused as a second one alone, with 2.
pub record DeliveriesAreRefusedInOrder : Type 0 where
  pub step : (fault : AcceptFault) (r : RoundValue) (d : DeliveryValue) → Refuses fault r d → d.step ≢ r.step → accept_number fault ≡ 3
  pub job : (fault : AcceptFault) (r : RoundValue) (d : DeliveryValue) → Refuses fault r d → d.step ≡ r.step → d.job ≢ r.job
      → accept_number fault ≡ 1
  pub order : (fault : AcceptFault) (r : RoundValue) (d : DeliveryValue) → Refuses fault r d → d.step ≡ r.step → IsOrdered r d
      → accept_number fault ≡ 2

-- the numbers of the refusals of a landing and of a closing
pub record RefusalsAreNumbered : Type 0 where
  pub out_of_range : (path : SmallVec ℕ) (place : ℕ) → fault_number (fault.OutOfRange path place) ≡ Some 1
  pub not_in_order : fault_number fault.NotInOrder ≡ Some 2
  pub overflow : (path : SmallVec ℕ) (place : ℕ) → fault_number (fault.Overflow path place) ≡ Some 3
  pub missing : (path : SmallVec ℕ) → close_number (close.Missing path) ≡ Some 4

-- logs in two runs
abbrev pub two_runs : List (List (List ℕ × List Put))
two_runs = (of 1 (set 0 (pos 1) ∷ []) ∷ of 3 (add 0 (pos 3) ∷ []) ∷ []) ∷ (of 0 (set 0 (pos 7) ∷ []) ∷ of 2 (add 0 (pos 2) ∷ []) ∷ []) ∷ []

-- a run that doesn't rise, beside a put to no cell
abbrev pub falling_run : List (List (List ℕ × List Put))
falling_run = (of 0 (set 9 (pos 0) ∷ []) ∷ []) ∷ (of 2 [] ∷ of 1 [] ∷ []) ∷ []

-- a path in two runs; each run rises
abbrev pub shared_path : List (List (List ℕ × List Put))
shared_path = (of 0 [] ∷ of 1 (set 9 (pos 0) ∷ []) ∷ []) ∷ (of 1 [] ∷ of 2 [] ∷ []) ∷ []

-- puts to no cell of two paths, the first one in the second run, and a sum before them that overflows
abbrev pub outside_runs : List (List (List ℕ × List Put))
outside_runs = (of 0 (add 0 (pos 1) ∷ []) ∷ of 2 (set 9 (pos 0) ∷ []) ∷ []) ∷ (of 1 (set 0 (pos 0) ∷ set 1 (pos 0) ∷ []) ∷ []) ∷ []

-- sums that overflow of two paths, the first one in the second run
abbrev pub over_runs : List (List (List ℕ × List Put))
over_runs = (of 3 (add 0 (pos 1) ∷ []) ∷ []) ∷ (of 2 (add 0 (pos 1) ∷ []) ∷ []) ∷ []

pub record RunsAreLandedSo : Type 0 where
  pub fits : refusal_of_runs (array (pos 5 ∷ [])) two_runs ≡ None
  pub lands : landed (joined (in_one two_runs)) (array (pos 5 ∷ [])) ≡ array (pos 6 ∷ [])
  pub falling : refusal_of_runs (array (pos 5 ∷ [])) falling_run ≡ Some NotInOrder
  pub shared : refusal_of_runs (array (pos 5 ∷ [])) shared_path ≡ Some NotInOrder
  pub outside : refusal_of_runs (array (most ∷ [])) outside_runs ≡ Some (OutOfRange (1 ∷ []) 1)
  pub overflow : refusal_of_runs (array (most ∷ [])) over_runs ≡ Some (Overflow (2 ∷ []) 0)
