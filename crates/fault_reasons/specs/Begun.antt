-- A superstep of a job, as it begins (own).
use Rattle.std.specs.Prelude.{◌≡◌, ℕ, ℤ, Bool, true, false, List, map, Option, Some, None}
use Rattle.phase_records.specs.Status.{Status, Ended, Fault, Limit}
use Rattle.programs.specs.Supersteps.{status}
use Rattle.step_core.specs.JobMeaning.{so_far}
use Rattle.step_core.specs.Program.{program_of}
use Rattle.task_code.specs.JobValue.{JobValue}
use Rattle.task_lang.specs.TaskValue.{TaskValue}
use Rattle.task_lang.specs.Views.{plans, task_of}

-- The job gets to its superstep of this number: if it were the limit, that is where the job would end.
abbrev pub GetsTo : JobValue → ℕ → Type 0
GetsTo j n = status n (so_far (program_of j) n n) ≡ Some (Limit n)

-- it does, and that superstep begins with these arrays and live tasks
pub record Begins (j : JobValue) (n : ℕ) (arrays : List (List ℕ × List ℤ)) (tasks : List TaskValue) : Type 0 where
  pub there : GetsTo j n
  pub arrays_are : arrays ≡ (so_far (program_of j) n n).arrays
  pub tasks_are : map (task_of (plans j.bodies)) tasks ≡ (so_far (program_of j) n n).live

-- an end at the limit
abbrev pub is_limit : Option Status → Bool
is_limit None = false
is_limit (Some (Ended step)) = false
is_limit (Some (Fault code step path)) = false
is_limit (Some (Limit step)) = true
