-- What holds of every world that schedules of a job reach (own).
use Rattle.std.specs.Prelude.{◌≡◌, ℕ, ◌≤◌, ◌<◌, ◌⊎◌, Bool, true, false, ◌==◌, ◌&&◌, if◌then◌else◌, List, [], ◌∷◌, map, Some, None, is_some, length}
use Rattle.phase_records.specs.Status.{Status, Ended as HasEnded, Fault as HasFaulted, Limit as IsAtLimit}
use Rattle.phase_records.specs.ReportValue.{ReportValue}
use Rattle.tier_shape.specs.Parents.{IsShape}
use Rattle.tier_steps.specs.Tally.{word_at}
use Rattle.tier_core.specs.declared.call.Played.{Played}
use Rattle.tier_core.specs.Turn.{end_shown}
use Rattle.tier_core.specs.Machine.{State as Tree}
use Rattle.step_core.specs.Program.{Program}
use Rattle.step_core.specs.Superstep.{superstep, live_paths}
use Rattle.step_core.specs.OrderValue.{has_synced, spawned_paths}
use Rattle.step_core.specs.JobMeaning.{report_of}
use Rattle.programs.specs.Supersteps.{status}
use Rattle.job_schedule.specs.declared.stage.Mode.TheVariants as mode
use Rattle.job_schedule.specs.declared.step.JobStep.{JobStep}
use Rattle.job_schedule.specs.declared.step.JobStep.TheVariants.{Take, Deliver, Tree as TreeStep, Advance, Close}
use Rattle.job_schedule.specs.ParticipantValue.{ParticipantValue, all_over, is_delivered, child_path, participant_path, participant_at}
use Rattle.job_schedule.specs.AnswerValue.{AnswerValue, Stepped, Closed, Finished, NotNow}
use Rattle.job_schedule.specs.World.{World, deed_of, initial_world, worker_of, next_job, answer_of, answers, world_after, reached}

-- The answer that finishes a job carries the report of the job's meaning with its limit.
abbrev pub FinishedTellsTheJob : Type 0
FinishedTellsTheJob =
    (p : Program) (parents : List ℕ) (limit : ℕ) (xs : List JobStep) (x : JobStep) (report : ReportValue)
    → answer_of (reached (initial_world p parents limit) xs) x ≡ Finished report → report_of p limit ≡ Some report

-- If a round is closed and the job goes on, the worker that advanced the root last closes it, all tasks have reached
-- their end, and it is one superstep of the job.
pub record IsClosing (w : World) (x : JobStep) : Type 0 where
  pub by : x ≡ Close (worker_of x)
  pub advanced : (token : ℕ) × (w.mode ≡ mode.Advanced (worker_of x) token)
  pub over : all_over w.participants ≡ true
  pub runs : (world_after w x).mode ≡ mode.Runs
  pub step : (world_after w x).job ≡ superstep w.program w.job

-- The same holds when the job is finished. Only a job that is over as it begins may be closed by any worker; that takes no superstep.
pub record IsFinishing (w : World) (x : JobStep) : Type 0 where
  pub by : x ≡ Close (worker_of x)
  pub from : (is_some (status w.limit w.job) ≡ true)
      ⊎ (((token : ℕ) × (w.mode ≡ mode.Advanced (worker_of x) token)) × (all_over w.participants ≡ true))
  pub step : (world_after w x).job ≡ next_job w

abbrev pub RoundsAreClosedOnce : Type 0
RoundsAreClosedOnce =
    (p : Program) (parents : List ℕ) (limit : ℕ) (xs : List JobStep) (x : JobStep)
    → (answer_of (reached (initial_world p parents limit) xs) x ≡ Closed → IsClosing (reached (initial_world p parents limit) xs) x)
    × ((report : ReportValue) → answer_of (reached (initial_world p parents limit) xs) x ≡ Finished report
    → IsFinishing (reached (initial_world p parents limit) xs) x)

-- After the end each step answers NotNow, but one: after a fault the closer's first step in the tree answers the tree's
-- end.
abbrev pub is_tree_step : ℕ → JobStep → Bool
is_tree_step closer (TreeStep worker) = worker == closer
is_tree_step _ _ = false

abbrev pub behind_the_end : ℕ → Played → Bool → List JobStep → List AnswerValue
behind_the_end closer end due [] = []
behind_the_end closer end due (x ∷ xs) =
    if due && is_tree_step closer x then Stepped end ∷ behind_the_end closer end false xs else NotNow ∷ behind_the_end closer end due xs

abbrev pub has_faulted : Status → Bool
has_faulted (HasEnded steps) = false
has_faulted (HasFaulted code step path) = true
has_faulted (IsAtLimit steps) = false

abbrev pub end_of : Tree → Played
end_of tree = end_shown (word_at tree.words 0)

abbrev pub FinishedIsTheEnd : Type 0
FinishedIsTheEnd =
    (p : Program) (parents : List ℕ) (limit : ℕ) (xs ys : List JobStep) (x : JobStep) (report : ReportValue)
    → answer_of (reached (initial_world p parents limit) xs) x ≡ Finished report
    → answers (world_after (reached (initial_world p parents limit) xs) x) ys
    ≡ behind_the_end (worker_of x) (end_of (reached (initial_world p parents limit) xs).tree) (has_faulted report.status) ys

-- A step that answers NotNow changes nothing.
abbrev pub RefusedStepsChangeNothing : Type 0
RefusedStepsChangeNothing =
    (p : Program) (parents : List ℕ) (limit : ℕ) (xs : List JobStep) (x : JobStep) → IsShape parents → length parents ≤ 65535
    → answer_of (reached (initial_world p parents limit) xs) x ≡ NotNow
    → world_after (reached (initial_world p parents limit) xs) x ≡ reached (initial_world p parents limit) xs

-- While a job runs, its participants are those of its live tasks, in path order; once a task's segment was handed in, its participant has
-- what that segment spawned, and whether the task synced.
pub record IsNoted (w : World) (g : ParticipantValue) : Type 0 where
  pub synced : g.synced ≡ has_synced (deed_of w g.path)
  pub children : map child_path g.children ≡ spawned_paths (deed_of w g.path)

pub record IsStanding (w : World) : Type 0 where
  pub paths : map participant_path w.participants ≡ live_paths w.job
  pub noted : (place : ℕ) → place < length w.participants → is_delivered (participant_at w.participants place).stage ≡ true
      → IsNoted w (participant_at w.participants place)

abbrev pub ParticipantsAreTheLiveTasks : Type 0
ParticipantsAreTheLiveTasks =
    (p : Program) (parents : List ℕ) (limit : ℕ) (xs : List JobStep)
    → status limit (reached (initial_world p parents limit) xs).job ≡ None → IsStanding (reached (initial_world p parents limit) xs)
