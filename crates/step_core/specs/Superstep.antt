-- What one superstep of a job does (own). It is a superstep of any program (programs/specs/Superstep.antt), whose tasks are those of the
-- job language.
use Rattle.std.specs.Prelude.{ℕ, ℤ, List, map, Option}
use Rattle.task_lang.specs.Meaning.{Plan, Task, Segment, segment_of}
use Rattle.programs.specs.Meaning.{Frame, Says}
use Rattle.programs.specs.History.{says_of}
use Rattle.programs.specs.Superstep as program
use Rattle.step_core.specs.Program.{Program}

-- where a task of a job is, and how many tasks it has spawned
abbrev pub job_frame : Frame Task
job_frame = record { path = λ t. t.path; begun = λ t. t.begun }

-- what the tasks of a job mean: each leaves what its segment does, and at most 4096 of them live at once
abbrev pub job_says : List Plan → Says Task
job_says plans = says_of job_frame 4096 (segment_of plans)

-- a job between two supersteps: how many were taken, the arrays, the live tasks in path order, what was printed and recorded, and
-- the fault that ended it, if one did, with the path of its task
abbrev pub State : Type 0
State = program.State Task

abbrev pub live_paths : State → List (List ℕ)
live_paths st = map job_frame.path st.live

-- what these tasks do over the arrays as the superstep began, each segment with the path of its task
abbrev pub segments : Program → List (List ℕ × List ℤ) → ℕ → List Task → List (List ℕ × Segment)
segments p arrays step ts = program.segments (job_says p.plans) arrays step ts

-- the next live tasks: those that synced and those that were spawned, in path order
abbrev pub next_live : List (List ℕ × Segment) → List Task
next_live ss = program.next_live job_frame.path ss

-- fault 7, if over 4096 tasks would live on
abbrev pub too_many : List Task → Option (ℕ × List ℕ)
too_many next = program.too_many 4096 next

-- How a superstep ends the job, if it does: the first faulting task comes first, then the number of tasks, then the first put that
-- overflows.
abbrev pub fault_in : List (List ℕ × List ℤ) → List (List ℕ × Segment) → Option (ℕ × List ℕ)
fault_in arrays ss = program.fault_in job_frame.path 4096 arrays ss

-- After a fault nothing of the superstep is landed, printed or recorded. Else its puts land, its prints and its record follow the
-- others, and the next live tasks go on.
abbrev pub closed : State → List (List ℕ × Segment) → Option (ℕ × List ℕ) → State
closed st ss fault = program.closed job_frame.path st ss fault

-- one superstep, by the segments of its live tasks
abbrev pub closed_by : State → List (List ℕ × Segment) → State
closed_by st ss = program.closed_by job_frame.path 4096 st ss

-- one superstep
abbrev pub superstep : Program → State → State
superstep p st = program.superstep (job_says p.plans) st
