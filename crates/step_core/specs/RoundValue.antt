-- What a round is: the supersteps of its job so far, and what was delivered of the next (own).
use Rattle.std.specs.Prelude.{◌≡◌, ℕ, ◌≤◌, ℤ, List, [], ◌∷◌, length, map, Option, Some, None}
use Rattle.phase_records.specs.PrintValue.{PrintValue}
use Rattle.phase_records.specs.declared.record.PhaseRecord.{PhaseRecord}
use Rattle.phase_records.specs.Status.{Status}
use Rattle.task_code.specs.JobValue.{JobValue}
use Rattle.task_lang.specs.Meaning.{Plan, Task, Segment, segment_of}
use Rattle.task_lang.specs.Views.{plans}
use Rattle.step_core.specs.Program.{program_of}
use Rattle.step_core.specs.Superstep.{State}
use Rattle.step_core.specs.JobMeaning.{so_far}
use Rattle.programs.specs.Supersteps.{status}
use Rattle.step_core.specs.SlotValue.{SlotValue}
use Rattle.step_core.specs.FinishedValue.{FinishedValue}
use Rattle.step_core.specs.Slots.{Slot, slots_of, task_in, all_prints, all_counts}

pub record RoundValue : Type 0 where
  pub job : JobValue
  pub limit : ℕ
  pub step : ℕ
  pub arrays : List (List ℕ × List ℤ)
  pub slots : List SlotValue
  pub prints : List PrintValue
  pub records : List PhaseRecord
  pub fault : Option (ℕ × List ℕ)

-- a round by what the code keeps of it
abbrev pub whole : JobValue → ℕ → ℕ → List (List ℕ × List ℤ) → List SlotValue → List FinishedValue → Option (ℕ × List ℕ) → RoundValue
whole job limit step arrays slots finished fault = record {
  job = job;
  limit = limit;
  step = step;
  arrays = arrays;
  slots = slots;
  prints = all_prints finished;
  records = all_counts finished;
  fault = fault;
}

-- the live tasks with what was delivered for them, as the job means them
abbrev pub slots_in : RoundValue → List Slot
slots_in r = slots_of (plans r.job.bodies) r.slots

-- the job between two supersteps
abbrev pub state_of : RoundValue → State
state_of r = record {
  step = r.step;
  arrays = r.arrays;
  live = map task_in (slots_in r);
  prints = r.prints;
  records = r.records;
  fault = r.fault;
}

-- how the round's job has ended, if it has
abbrev pub status_in : RoundValue → Option Status
status_in r = status r.limit (state_of r)

-- what was delivered is the segment of its task
abbrev pub Fits : List Plan → List (List ℕ × List ℤ) → ℕ → Task → Option Segment → Type 0
Fits ps arrays step t None = Unit {0}
Fits ps arrays step t (Some g) = g ≡ segment_of ps t arrays step

abbrev pub AllFit : List Plan → List (List ℕ × List ℤ) → ℕ → List Slot → Type 0
AllFit ps arrays step [] = Unit {0}
AllFit ps arrays step (s ∷ ss) = Fits ps arrays step s.task s.done × AllFit ps arrays step ss

-- its state is that of the job's supersteps so far, each segment that was delivered is that of its task, and at most
-- 4096 tasks live
pub record IsRound (r : RoundValue) : Type 0 where
  pub reached : (n : ℕ) × (state_of r ≡ so_far (program_of r.job) r.limit n)
  pub fits : AllFit (plans r.job.bodies) r.arrays r.step (slots_in r)
  pub few : length r.slots ≤ 4096

-- nothing was delivered yet
abbrev pub AllFresh : List SlotValue → Type 0
AllFresh [] = Unit {0}
AllFresh (s ∷ ss) = (s.done ≡ None) × AllFresh ss

-- a round with these slots
abbrev pub with_slots : RoundValue → List SlotValue → RoundValue
with_slots r slots = record r { slots = slots }

-- a round whose job this fault has ended
abbrev pub with_fault : RoundValue → ℕ × List ℕ → RoundValue
with_fault r f = record r { fault = Some f }

-- a round of this job with this limit, in this state; nothing was delivered, unless a fault has ended the job
pub record Opens (r : RoundValue) (j : JobValue) (most : ℕ) (st : State) : Type 0 where
  pub job : r.job ≡ j
  pub limit : r.limit ≡ most
  pub state : state_of r ≡ st
  pub none_yet : r.fault ≡ None → AllFresh r.slots
