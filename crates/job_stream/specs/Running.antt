-- The run of a job by stretches (own).
use Rattle.std.specs.Prelude.{◌≡◌, ℕ, List, [], ◌∷◌, ◌++◌, map, None}
use Rattle.ghost_lists.specs.Agreed.{WasBefore}
use Rattle.task_code.specs.JobValue.{JobValue}
use Rattle.task_lang.specs.TaskValue.{TaskValue}
use Rattle.task_lang.specs.Views.{plans, task_of}
use Rattle.step_core.specs.JobMeaning.{start_tasks}
use Rattle.step_core.specs.SlotParts.{path_in}
use Rattle.task_lang.specs.Meaning.{Task}
use Rattle.step_core.specs.declared.job.JobProgram.{JobProgram}
use Rattle.step_core.specs.Superstep.{job_frame}
use Rattle.step_core.specs.JobTasks.{JobMay}
use Rattle.step_core.specs.JobRun.{JobRunValue, IsAfter}
use Rattle.phase_records.specs.PrintValue.{PrintValue}
use Rattle.phase_records.specs.declared.record.PhaseRecord.{PhaseRecord}
use Rattle.program_stretches.specs.SuperstepStart.{SuperstepStartValue, live_of}
use Rattle.program_stretches.specs.Parts.{Reading, reading_of}
use Rattle.program_stretches.specs.LinesValue.{LinesValue}
use Rattle.program_stretches.specs.StretchesValue.{StretchesValue}
use Rattle.program_stretches.specs.Closing.{IsGiven}

-- a log of the starts of a run that began as this job begins
pub record IsRunOf (j : JobValue) (limit : ℕ) (log : List (SuperstepStartValue JobProgram TaskValue)) : Type 0 where
  pub first : SuperstepStartValue JobProgram TaskValue
  pub since : List (SuperstepStartValue JobProgram TaskValue)
  pub begun : log ≡ since ++ first ∷ []
  pub job : first.program.job.now ≡ j
  pub most : first.most ≡ 4096
  pub limit_is : first.limit ≡ limit
  pub arrays : first.arrays ≡ j.arrays
  pub tasks : map (task_of (plans j.bodies)) (live_of first) ≡ start_tasks (plans j.bodies) 0 j.starts

module _ {Q S T : Type 0} where
  -- this was given away by a run whose log went on from this one, and that no fault has ended
  pub record IsGivenAfter (m : Q → Reading S T) (log : List (SuperstepStartValue Q S)) (lines : LinesValue) : Type 0 where
    pub run : StretchesValue Q S
    pub since : WasBefore log run.log
    pub calm : run.fault ≡ None
    pub given : IsGiven m run lines

-- how the tasks of a job are read
abbrev pub job_reading : JobProgram → Reading TaskValue Task
job_reading = reading_of (λ q. job_frame) (λ q. JobMay (plans q.job.now.bodies)) (λ q. task_of (plans q.job.now.bodies)) path_in

-- A run of this job within this limit, after `n` supersteps, or as it ended before. All that it printed and recorded was taken away.
pub record IsWritten (j : JobValue) (limit n : ℕ) (r : JobRunValue) : Type 0 where
  pub job : r.job ≡ j
  pub limit_is : r.run.limit ≡ limit
  pub prints : List PrintValue
  pub records : List PhaseRecord
  pub after : IsAfter n prints records r
  pub none : (r.run.prints ≡ []) × (r.run.records ≡ [])
