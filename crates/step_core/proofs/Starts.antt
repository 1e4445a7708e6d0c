-- The tasks that a job starts, and what a run of its program leaves.
use Rattle.std.proofs.Common.{◌≡◌, ℕ, suc, List, [], ◌∷◌, map, length, Some, refl, sym, ap, ◌∙◌, subst}
use Rattle.std.specs.Prelude.{ℤ}
use Rattle.std.proofs.lemmas.List.{length-map}
use Rattle.phase_records.specs.ReportValue.{ReportValue}
use Rattle.task_lang.specs.TaskValue.{TaskValue}
use Rattle.task_lang.specs.Views.{plans, task_of}
use Rattle.task_lang.specs.Meaning.{Plan, Task, segment_of}
use Rattle.task_code.specs.declared.job.Start.{Start}
use Rattle.task_code.specs.JobValue.{JobValue}
use Rattle.step_core.specs.SlotParts.{path_in}
use Rattle.step_core.specs.Program.{Program, program_of}
use Rattle.step_core.specs.Superstep.{job_frame}
use Rattle.step_core.specs.JobMeaning.{start_tasks, starts, report_of}
use Rattle.programs.specs.Meaning.{children}
use Rattle.programs.specs.History.{Setup, HasRun}
use Rattle.programs.proofs.Exactly.{exactly}
use Rattle.step_core.specs.JobTasks.{JobMay}

start_paths : (ps : List Plan) (n : ℕ) (ss : List Start) → map (λ (t : Task). t.path) (start_tasks ps n ss) ≡ children [] n (length ss)
start_paths ps n [] = refl
start_paths ps n (s ∷ ss) = ap (λ (qs : List (List ℕ)). (n ∷ []) ∷ qs) (start_paths ps (suc n) ss)

paths_of : (ps : List Plan) (ts : List TaskValue) → map path_in ts ≡ map (λ (t : Task). t.path) (map (task_of ps) ts)
paths_of ps [] = refl
paths_of ps (t ∷ ts) = ap (λ (qs : List (List ℕ)). t.path ∷ qs) (paths_of ps ts)

start_count : (ps : List Plan) (n : ℕ) (ss : List Start) → length (start_tasks ps n ss) ≡ length ss
start_count ps n [] = refl
start_count ps n (s ∷ ss) = ap suc (start_count ps (suc n) ss)

pub starts_count : (ps : List Plan) (ts : List TaskValue) (ss : List Start) → map (task_of ps) ts ≡ start_tasks ps 0 ss
    → length ts ≡ length ss
starts_count ps ts ss e = sym (length-map ts (task_of ps)) ∙ ap length e ∙ start_count ps 0 ss

pub starts_paths : (ps : List Plan) (ts : List TaskValue) (ss : List Start) → map (task_of ps) ts ≡ start_tasks ps 0 ss
    → map path_in ts ≡ children [] 0 (length ts)
starts_paths ps ts ss e =
    paths_of ps ts ∙ ap (map (λ (t : Task). t.path)) e ∙ start_paths ps 0 ss ∙ ap (children [] 0) (sym (starts_count ps ts ss e))

pub starts_begin : (p : Program) → map job_frame.path (starts p) ≡ children [] 0 (length (starts p))
starts_begin p = start_paths p.plans 0 p.starts ∙ ap (children [] 0) (sym (start_count p.plans 0 p.starts))

-- the setup of a run of these plans
abbrev pub setup_with : List Plan → List (List ℕ × List ℤ) → List Task → ℕ → Setup Task
setup_with ps arrays tasks limit =
    record { frame = job_frame; may = JobMay ps; most = 4096; arrays = arrays; tasks = tasks; limit = limit }

-- the setup of a job's run
abbrev pub setup_of : Program → ℕ → Setup Task
setup_of p limit = setup_with p.plans p.arrays (starts p) limit

-- a run of the program leaves the report of the job
pub job_report : (p : Program) (limit : ℕ) (outcome : ReportValue) (living : List Task)
    → HasRun (setup_of p limit) outcome living → report_of p limit ≡ Some outcome
job_report p limit outcome living h =
    exactly job_frame (JobMay p.plans) 4096 (segment_of p.plans) (λ t arrays step g e. e) p.arrays (starts p) limit (starts_begin p) outcome
    living h

-- the same of a job whose run begins with its arrays and the tasks of its start lines
pub job_left : (j : JobValue) (limit : ℕ) (arrays : List (List ℕ × List ℤ)) (ts : List TaskValue) (outcome : ReportValue)
    (living : List Task)
    → arrays ≡ j.arrays → map (task_of (plans j.bodies)) ts ≡ start_tasks (plans j.bodies) 0 j.starts
    → HasRun (setup_with (plans j.bodies) arrays (map (task_of (plans j.bodies)) ts) limit) outcome living
    → report_of (program_of j) limit ≡ Some outcome
job_left j limit arrays ts outcome living ea et h =
    job_report (program_of j) limit outcome living
    (subst (λ (xs : List (List ℕ × List ℤ)). HasRun (setup_with (plans j.bodies) xs (starts (program_of j)) limit) outcome living) ea
    (subst (λ (us : List Task). HasRun (setup_with (plans j.bodies) arrays us limit) outcome living) et h))
