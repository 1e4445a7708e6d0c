-- A run of a job on one thread that is taken superstep by superstep (own).
use Rattle.std.specs.Prelude.{◌≡◌, ℕ, ◌+◌, List}
use Rattle.phase_records.specs.PrintValue.{PrintValue}
use Rattle.phase_records.specs.declared.record.PhaseRecord.{PhaseRecord}
use Rattle.programs.specs.Steps as program
use Rattle.programs.specs.Steps.{StepsValue, IsSoFar}
use Rattle.step_core.specs.JobTasks.{JobMay}
use Rattle.step_core.specs.JobMeaning.{starts, so_far}
use Rattle.step_core.specs.Program.{program_of}
use Rattle.step_core.specs.Superstep.{State, job_frame, job_says}
use Rattle.task_code.specs.JobValue.{JobValue}
use Rattle.task_lang.specs.TaskValue.{TaskValue}
use Rattle.task_lang.specs.Views.{plans, task_of}

-- the job, and its run
pub record JobRunValue : Type 0 where
  pub job : JobValue
  pub run : StepsValue TaskValue

-- the job after this many supersteps within the run's limit, or as it ended before
abbrev pub state_after : JobRunValue → ℕ → State
state_after r n = so_far (program_of r.job) r.run.limit n

-- The run has taken `n` supersteps, or fewer if it ended before. These of its prints and records were taken away.
abbrev pub IsAfter : ℕ → List PrintValue → List PhaseRecord → JobRunValue → Type 0
IsAfter n ps rs r =
    IsSoFar (job_says (plans r.job.bodies)) r.job.arrays (starts (program_of r.job)) n (task_of (plans r.job.bodies)) ps rs r.run

-- it has, whatever was taken away
pub record HasReached (n : ℕ) (r : JobRunValue) : Type 0 where
  pub prints : List PrintValue
  pub records : List PhaseRecord
  pub after : IsAfter n prints records r

-- the same job so many supersteps later, or as it ended before
pub record IsLater (k : ℕ) (r s : JobRunValue) : Type 0 where
  pub job : s.job ≡ r.job
  pub limit : s.run.limit ≡ r.run.limit
  pub reached : (n : ℕ) → HasReached n r → HasReached (n + k) s

-- one superstep of the job was taken
pub record HasStepped (old new : JobRunValue) : Type 0 where
  pub job : new.job ≡ old.job
  pub run : program.HasStepped job_frame (JobMay (plans old.job.bodies)) (task_of (plans old.job.bodies)) old.run new.run
