-- What a job means: supersteps one after another, by one thread (own), as of any program (programs/specs/Supersteps.antt).
use Rattle.std.specs.Prelude.{ℕ, suc, List, [], ◌∷◌, Option}
use Rattle.phase_records.specs.ReportValue.{ReportValue}
use Rattle.task_code.specs.declared.job.Start.{Start}
use Rattle.task_lang.specs.Meaning.{Plan, Task, started}
use Rattle.programs.specs.Supersteps as program
use Rattle.step_core.specs.Program.{Program}
use Rattle.step_core.specs.Superstep.{State, job_says}

-- the tasks of these start lines; the first line has this number
abbrev pub start_tasks : List Plan → ℕ → List Start → List Task
start_tasks plans number [] = []
start_tasks plans number (s ∷ ss) = started plans (number ∷ []) s.body s.arg ∷ start_tasks plans (suc number) ss

-- the tasks that a job starts
abbrev pub starts : Program → List Task
starts p = start_tasks p.plans 0 p.starts

-- a job before its first superstep
abbrev pub initial : Program → State
initial p = program.initial p.arrays (starts p)

-- the job after this many supersteps, or as it ended before
abbrev pub so_far : Program → ℕ → ℕ → State
so_far p limit n = program.so_far (job_says p.plans) p.arrays (starts p) limit n

-- the job after this many supersteps, whatever the limit
abbrev pub state_at : Program → ℕ → State
state_at p n = program.state_at (job_says p.plans) p.arrays (starts p) n

-- what a job leaves: no job takes more supersteps than its limit
abbrev pub report_of : Program → ℕ → Option ReportValue
report_of p limit = program.report_of (job_says p.plans) p.arrays (starts p) limit
