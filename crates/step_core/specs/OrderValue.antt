-- What an order and a delivery are (own).
use Rattle.std.specs.Prelude.{◌≡◌, ℕ, ℤ, pos, Bool, true, false, List, [], Option, Some, None, slice_get, map}
use Rattle.std.specs.Borrow.{Bor}
use Rattle.task_code.specs.JobValue.{JobValue}
use Rattle.task_lang.specs.TaskValue.{TaskValue}
use Rattle.task_lang.specs.SegmentValue.{SegmentValue}
use Rattle.task_lang.specs.Meaning.{Task, After, Segment, segment_of}
use Rattle.programs.specs.Meaning.{Synced, Stopped, Faulted}
use Rattle.task_lang.specs.Views.{plans, task_of, meant}
use Rattle.step_core.specs.Program.{Program, program_of}
use Rattle.step_core.specs.Superstep.{State}
use Rattle.step_core.specs.JobMeaning.{state_at}

-- the task at this place of the live tasks, at this step, and the arrays as it began
pub record OrderValue : Type 0 where
  pub job : JobValue
  pub step : ℕ
  pub place : ℕ
  pub task : TaskValue
  pub arrays : List (List ℕ × List ℤ)

abbrev pub order_value : JobValue → ℕ → ℕ → TaskValue → List (List ℕ × List ℤ) → OrderValue
order_value job step place task arrays = record { job = job; step = step; place = place; task = task; arrays = arrays }

-- the task that was found; if none was, one without a place in any job
abbrev pub found_task : Option TaskValue → TaskValue
found_task (Some t) = t
found_task None = record { path = []; body = 0; place = 0; locals = []; arg = pos 0; spawned = 0 }

-- for the task at this place among all live ones
abbrev pub order_among : JobValue → ℕ → ℕ → List TaskValue → List (List ℕ × List ℤ) → OrderValue
order_among job step place tasks arrays = order_value job step place (found_task (slice_get tasks place)) arrays

-- its task, as the job means it
abbrev pub ordered_task : OrderValue → Task
ordered_task o = task_of (plans o.job.bodies) o.task

-- an order is one of its job's supersteps
pub record IsOrder (o : OrderValue) : Type 0 where
  pub step : (state_at (program_of o.job) o.step).step ≡ o.step
  pub task : slice_get (state_at (program_of o.job) o.step).live o.place ≡ Some (ordered_task o)
  pub arrays : o.arrays ≡ (state_at (program_of o.job) o.step).arrays

-- the segment of the task of this path, at this place of the live tasks, at this step
pub record DeliveryValue : Type 0 where
  pub job : JobValue
  pub step : ℕ
  pub place : ℕ
  pub path : List ℕ
  pub segment : SegmentValue

abbrev pub delivery_value : JobValue → ℕ → ℕ → List ℕ → SegmentValue → DeliveryValue
delivery_value job step place path segment = record {
  job = job;
  step = step;
  place = place;
  path = path;
  segment = segment;
}

-- its segment, as the job means it
abbrev pub delivered_segment : DeliveryValue → Segment
delivered_segment d = meant (plans d.job.bodies) d.segment

-- a task's path, and what it does in this state
abbrev pub deed_of : Program → State → Option Task → Option (List ℕ × Segment)
deed_of p st None = None
deed_of p st (Some t) = Some (t.path, segment_of p.plans t st.arrays st.step)

-- the path of the task at this place, at this step, and what it does then
abbrev pub deed_at : Program → ℕ → ℕ → Option (List ℕ × Segment)
deed_at p step place = deed_of p (state_at p step) (slice_get (state_at p step).live place)

-- a delivery is the segment of its order
abbrev pub IsDelivery : DeliveryValue → Type 0
IsDelivery d = deed_at (program_of d.job) d.step d.place ≡ Some (d.path, delivered_segment d)

abbrev pub IsDeliveryInside : JobValue → ℕ → ℕ → List ℕ → SegmentValue → Type 0
IsDeliveryInside job step place path segment = IsDelivery (delivery_value job step place path segment)

abbrev pub is_synced : After → Bool
is_synced (Synced t) = true
is_synced Stopped = false
is_synced (Faulted f) = false

abbrev pub has_synced : Segment → Bool
has_synced g = is_synced g.after

-- the paths of the tasks that were spawned, in order
abbrev pub spawned_paths : Segment → List (List ℕ)
spawned_paths g = map (λ t. t.path) g.spawns

-- a path by reference
abbrev pub now_of : Bor (List ℕ) → List ℕ
now_of b = b.now
