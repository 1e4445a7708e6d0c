-- What a closed superstep answers, and in which order a delivery names the tasks that were spawned (own).
use Rattle.std.specs.Prelude.{◌≡◌, ◌<◌, ◌≤◌, ℕ, ℤ, pos, List, [], ◌∷◌, length, map, replicate, slice_get, Some, None}
use Rattle.superstep_memory.specs.declared.arrays.PutKind.TheVariants.{Add as Plus}
use Rattle.superstep_memory.specs.Landing.{first_over}
use Rattle.superstep_memory.specs.Worked.{most}
use Rattle.task_code.specs.declared.code.Index.TheVariants.{Number}
use Rattle.task_code.specs.declared.code.Expr.TheVariants.{One}
use Rattle.task_code.specs.declared.code.Action.TheVariants.{Put, Spawn, Sync}
use Rattle.task_code.specs.Tree.{Done, Do}
use Rattle.task_lang.specs.Meaning.{Task, Segment, segment_of, started}
use Rattle.task_lang.specs.Laws.{children}
use Rattle.step_core.specs.Program.{Program, program_of}
use Rattle.step_core.specs.Superstep.{segments, next_live}
use Rattle.programs.specs.Superstep.{first_fault, log_of}
use Rattle.step_core.specs.JobMeaning.{initial, state_at}
use Rattle.step_core.specs.OrderValue.{DeliveryValue, IsDelivery, delivered_segment, spawned_paths}
use Rattle.step_core.specs.Taking.{outcome_of}
use Rattle.step_core.specs.declared.fault.Outcome.{Outcome}
use Rattle.step_core.specs.declared.fault.Outcome.TheVariants.{Landed, Faulted, TooMany, Overflowed}
use Rattle.job_laws.specs.Worked.{cell, arg, number, body, start, array, program, faulting, overflowing, in_time, faulting_first}
use Rattle.job_laws.specs.WorkedFaults.{spawning}

-- `Faulted` if a task faults; else `TooMany` if over 4096 tasks would live on; else `Overflowed` if a sum isn't one of
-- 64 signed bits; else `Landed`.
pub record OutcomesTellWhy : Type 0 where
  pub faulted : (arrays : List (List ℕ × List ℤ)) (ss : List (List ℕ × Segment)) (f : ℕ × List ℕ) → first_fault ss ≡ Some f
      → outcome_of arrays ss ≡ Faulted
  pub too_many : (arrays : List (List ℕ × List ℤ)) (ss : List (List ℕ × Segment)) → first_fault ss ≡ None → 4096 < length (next_live ss)
      → outcome_of arrays ss ≡ TooMany
  pub overflowed : (arrays : List (List ℕ × List ℤ)) (ss : List (List ℕ × Segment)) (put : List ℕ × ℕ) → first_fault ss ≡ None
      → length (next_live ss) ≤ 4096
      → first_over arrays (map log_of ss) ≡ Some put → outcome_of arrays ss ≡ Overflowed
  pub landed : (arrays : List (List ℕ × List ℤ)) (ss : List (List ℕ × Segment)) → first_fault ss ≡ None → length (next_live ss) ≤ 4096
      → first_over arrays (map log_of ss) ≡ None → outcome_of arrays ss ≡ Landed

-- how the first superstep of a job ends
abbrev pub outcome_at_first : Program → Outcome
outcome_at_first p = outcome_of p.arrays (segments p p.arrays 0 (initial p).live)

-- This many tasks. Each adds to a cell that holds the greatest number, spawns a task, and goes on.
abbrev pub crowd : ℕ → Program
crowd n =
    program (array (most ∷ []))
    (body 0 (Do (Put Plus (cell (Number (pos 0))) (One (number (pos 1)))) (Do (Spawn 1 arg) (Do Sync Done))) ∷ body 0 Done ∷ [])
    (replicate n (start 0 (pos 0)))

pub record OutcomesAreWorkedOut : Type 0 where
  pub faulted : outcome_at_first faulting ≡ Faulted
  pub overflowed : outcome_at_first overflowing ≡ Overflowed
  pub landed : outcome_at_first in_time ≡ Landed
  -- a task's fault comes before a sum that overflows, and the number of tasks comes before it too
  pub faulted_first : outcome_at_first faulting_first ≡ Faulted
  pub too_many : outcome_at_first (crowd 2049) ≡ TooMany
  pub just_enough : outcome_at_first (crowd 2048) ≡ Overflowed

-- this is the task of a delivery, as its superstep began
abbrev pub IsTaskOf : DeliveryValue → Task → Type 0
IsTaskOf d t = slice_get (state_at (program_of d.job) d.step).live d.place ≡ Some t

-- a task that has spawned two others before, and now spawns three
abbrev pub spawns_three : Segment
spawns_three = segment_of (spawning (pos 3)).plans (record (started (spawning (pos 3)).plans (5 ∷ []) 0 (pos 0)) { begun = 2 }) [] 0

-- The paths of the tasks that a delivery spawned, in the order in which its task spawned them: its path, followed by the next numbers.
pub record DeliveriesNameTheirSpawns : Type 0 where
  pub in_order : (d : DeliveryValue) (t : Task) → IsDelivery d → IsTaskOf d t
      → spawned_paths (delivered_segment d) ≡ children d.path t.begun (length (delivered_segment d).spawns)
  pub worked : spawned_paths spawns_three ≡ (5 ∷ 2 ∷ []) ∷ (5 ∷ 3 ∷ []) ∷ (5 ∷ 4 ∷ []) ∷ []
