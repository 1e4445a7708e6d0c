-- What holds in every schedule of a job over a tree (own).
use Rattle.std.specs.Prelude.{◌≡◌, ◌≢◌, ℕ, ◌+◌, ◌≤◌, ◌<◌, true, false, List, None, Some, length}
use Rattle.flat_phaser.specs.Flat.{registered}
use Rattle.tier_shape.specs.Paths.{IsTiers}
use Rattle.tier_core.specs.declared.call.Call.TheVariants as call
use Rattle.tier_core.specs.declared.call.Played.{Played}
use Rattle.tier_laws.specs.Frame.{flat_of}
use Rattle.task_lang.specs.Meaning.{Segment}
use Rattle.step_core.specs.Program.{Program}
use Rattle.step_core.specs.Superstep.{segments}
use Rattle.programs.specs.Superstep.{first_fault, record_of}
use Rattle.job_schedule.specs.declared.stage.Mode.TheVariants as mode
use Rattle.job_schedule.specs.declared.step.JobStep.{JobStep}
use Rattle.job_schedule.specs.declared.step.JobStep.TheVariants.{Close}
use Rattle.job_schedule.specs.ParticipantValue.{is_delivered, is_refused, participant_at}
use Rattle.job_schedule.specs.AnswerValue.{Advanced, Stepped, NotNow}
use Rattle.job_schedule.specs.declared.stage.Move.{Move}
use Rattle.job_schedule.specs.declared.stage.Move.TheVariants.{Calls, Closes}
use Rattle.job_schedule.specs.World.{World, initial_world, answer_of, move_of, kind_of, kind_for, worker_of, world_after, reached}
use Rattle.job_laws.specs.Working.{IsKept}

-- a job with a limit on a tree, as it may be driven
pub record IsDriven (p : Program) (parents : List ℕ) (limit : ℕ) : Type 0 where
  pub tiers : IsTiers parents
  pub starts : length p.starts ≤ 4096
  pub some : 1 ≤ limit
  pub few : limit ≤ 2147483648

-- Each world that a schedule reaches is kept: while its job runs, its superstep works or has turned.
abbrev pub WorldsAreKept : Type 0
WorldsAreKept =
    (p : Program) (parents : List ℕ) (limit : ℕ) (xs : List JobStep) → IsDriven p parents limit
    → IsKept parents (reached (initial_world p parents limit) xs) (reached (initial_world p parents limit) xs).mode

-- Whoever has advanced the root may close the round at once: each live task was handed in, and all its calls have their answers.
pub record IsWhole (w : World) (worker token : ℕ) : Type 0 where
  pub delivered : (place : ℕ) → place < length w.participants → is_delivered (participant_at w.participants place).stage ≡ true
  pub closes : move_of w worker ≡ Some (Closes token)

abbrev pub ClosingMissesNothing : Type 0
ClosingMissesNothing =
    (p : Program) (parents : List ℕ) (limit : ℕ) (xs : List JobStep) (worker token : ℕ) → IsDriven p parents limit
    → (reached (initial_world p parents limit) xs).mode ≡ mode.Advanced worker token
    → IsWhole (reached (initial_world p parents limit) xs) worker token

-- The worker that has advanced the root gets an answer to its next step, if that is to close the round.
abbrev pub ClosesFollowAdvances : Type 0
ClosesFollowAdvances =
    (p : Program) (parents : List ℕ) (limit : ℕ) (xs : List JobStep) (x : JobStep) (played : Played) → IsDriven p parents limit
    → answer_of (reached (initial_world p parents limit) xs) x ≡ Advanced played
    → answer_of (world_after (reached (initial_world p parents limit) xs) x) (Close (worker_of x)) ≢ NotNow

-- In every schedule a worker's next step is answered, whatever the others have done: a step answers NotNow only if it
-- isn't its worker's next.
abbrev pub NextStepsAreAnswered : Type 0
NextStepsAreAnswered =
    (p : Program) (parents : List ℕ) (limit : ℕ) (xs : List JobStep) (x : JobStep) (move : Move) → IsDriven p parents limit
    → move_of (reached (initial_world p parents limit) xs) (worker_of x) ≡ Some move → kind_of x ≡ kind_for move
    → answer_of (reached (initial_world p parents limit) xs) x ≢ NotNow

-- what the live tasks do in this superstep
abbrev pub deeds : World → List (List ℕ × Segment)
deeds w = segments w.program w.job.arrays w.job.step w.job.live

-- The root is in the phase of the superstep. If no task of it faults, its members are the parties of the superstep's
-- record except those that left.
pub record IsCounted (w : World) : Type 0 where
  pub phase : (flat_of w.tree).phase ≡ w.job.step
  pub members : first_fault (deeds w) ≡ None
      → (record_of w.job.step (deeds w)).parties ≡ registered (flat_of w.tree) + (record_of w.job.step (deeds w)).left

-- The same holds at each advance.
abbrev pub AdvancesAreCounted : Type 0
AdvancesAreCounted =
    (p : Program) (parents : List ℕ) (limit : ℕ) (xs : List JobStep) (x : JobStep) (played : Played) → IsDriven p parents limit
    → answer_of (reached (initial_world p parents limit) xs) x ≡ Advanced played
    → IsCounted (reached (initial_world p parents limit) xs)

-- A spawned task's join at the tier of its spawner is never refused.
abbrev pub SpawnsHaveRoomAtHome : Type 0
SpawnsHaveRoomAtHome =
    (p : Program) (parents : List ℕ) (limit : ℕ) (xs : List JobStep) (x : JobStep) (place token : ℕ) (played : Played)
    → IsDriven p parents limit
    → move_of (reached (initial_world p parents limit) xs) (worker_of x)
    ≡ Some (Calls place token (call.Join (participant_at (reached (initial_world p parents limit) xs).participants place).home 1))
    → answer_of (reached (initial_world p parents limit) xs) x ≡ Stepped played → is_refused played ≡ false
