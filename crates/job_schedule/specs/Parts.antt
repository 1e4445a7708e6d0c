-- The world by what the code keeps of it, and parts of it (own).
use Rattle.std.specs.Prelude.{◌≡◌, ◌<◌, ◌≤◌, ℕ, true, false, List, length, reverse, None, slice_get}
use Rattle.tier_core.specs.Run.{IsCall}
use Rattle.smallvec.specs.SmallVec.{SmallVec}
use Rattle.step_core.specs.Program.{Program, program_of}
use Rattle.step_core.specs.Superstep.{superstep}
use Rattle.programs.specs.Supersteps.{status, unless_ended}
use Rattle.step_core.specs.RoundValue.{RoundValue, AllFresh, state_of, status_in}
use Rattle.step_core.specs.OrderValue.{DeliveryValue}
use Rattle.step_core.specs.Taking.{Takes as IsTakenBy, IsFor, is_done, is_live, with_delivery}
use Rattle.task_lang.specs.Meaning.{Segment}
use Rattle.step_core.specs.Superstep.{segments}
use Rattle.job_schedule.specs.declared.schedule.Schedule.{Schedule}
use Rattle.job_schedule.specs.declared.stage.Mode.TheVariants.{Runs}
use Rattle.job_schedule.specs.declared.stage.Stage.TheVariants.{Taken, Waits}
use Rattle.job_schedule.specs.ParticipantValue.{all_over, is_delivered, participant_at}
use Rattle.job_schedule.specs.declared.stage.Move.{Move}
use Rattle.job_schedule.specs.declared.stage.Move.TheVariants.{Takes, Delivers, Calls, Advances, Closes, Ends}
use Rattle.job_schedule.specs.declared.step.JobStep.{JobStep}
use Rattle.job_schedule.specs.World.{World, deed_in, initial_world, reached}

-- free tokens, the next one last
abbrev pub world_of : Schedule → World
world_of s = record {
  program = program_of s.round.job;
  limit = s.round.limit;
  job = state_of s.round;
  tree = s.core;
  leaves = s.leaves.items;
  participants = s.participants.items;
  taken = s.taken;
  hands = s.hands.items;
  free = reverse s.free.items;
  mode = s.mode;
}

abbrev pub path_items : SmallVec ℕ → List ℕ
path_items p = p.items

-- what the live task of this path does in this round
abbrev pub deed_by : RoundValue → List ℕ → Segment
deed_by r path = deed_in (segments (program_of r.job) r.arrays r.step (state_of r).live) path

-- the same job as far as its supersteps go
pub record IsAsBefore (old new : RoundValue) : Type 0 where
  pub job : new.job ≡ old.job
  pub limit : new.limit ≡ old.limit
  pub state : state_of new ≡ state_of old

-- a delivery for the task of this path was taken, and nothing else is changed
pub record IsTaken (old : RoundValue) (path : List ℕ) (new : RoundValue) : Type 0 where
  pub delivery : DeliveryValue
  pub own : delivery.path ≡ path
  pub takes : IsTakenBy old delivery
  pub added : new ≡ with_delivery old delivery

-- one superstep more, without deliveries yet, unless the job had ended
pub record IsNext (old new : RoundValue) : Type 0 where
  pub job : new.job ≡ old.job
  pub limit : new.limit ≡ old.limit
  pub state : state_of new ≡ unless_ended (status_in old) (state_of old) (superstep (program_of old.job) (state_of old))
  pub fresh : status_in new ≡ None → AllFresh new.slots

-- What a schedule keeps beside its world. While the job runs, a segment was handed in exactly if the participant's
-- stage says so. From the next task to be taken on each participant waits. A job with live tasks whose tasks are worked
-- at has not ended.
pub record IsKept (r : RoundValue) (w : World) : Type 0 where
  pub handed : status_in r ≡ None → (place : ℕ) → place < length w.participants
      → is_done (slice_get r.slots place) ≡ is_delivered (participant_at w.participants place).stage
  pub waiting : (place : ℕ) → w.taken ≤ place → place < length w.participants → (participant_at w.participants place).stage ≡ Waits
  pub runs : w.mode ≡ Runs → 0 < length w.participants → status_in r ≡ None

-- nothing was handed in yet for the task of this path, which is live
pub record IsWanted (r : RoundValue) (path : List ℕ) : Type 0 where
  pub runs : status_in r ≡ None
  pub live : is_live r.slots path ≡ true
  pub first : (place : ℕ) → IsFor path (slice_get r.slots place) → is_done (slice_get r.slots place) ≡ false

-- a move of an existing participant, at a stage that it belongs to, and of a call that may be begun; a job that goes on
-- is closed only when all tasks have reached their end
abbrev pub IsAllowed : World → Move → Type 0
IsAllowed w (Takes place) = (place < length w.participants) × (place ≡ w.taken)
IsAllowed w (Delivers place) = (place < length w.participants) × ((participant_at w.participants place).stage ≡ Taken) × (w.mode ≡ Runs)
IsAllowed w (Calls place token c) =
    ((place < length w.participants) × IsCall c) × (is_delivered (participant_at w.participants place).stage ≡ true)
IsAllowed w (Advances place) = (place < length w.participants) × (is_delivered (participant_at w.participants place).stage ≡ true)
IsAllowed w (Closes token) = status w.limit w.job ≡ None → all_over w.participants ≡ true
IsAllowed w (Ends token) = Unit {0}

-- steps of workers lead here from the beginning of a job, within some limit and on some tree
abbrev pub IsReached : World → Type 0
IsReached w =
    (program : Program) × (limit : ℕ) × (parents : List ℕ) × (xs : List JobStep) × (w ≡ reached (initial_world program parents limit) xs)
