use Rattle.std.proofs.Common.{◌≡◌, ◌≤◌, ◌+◌, ◌++◌, map, length}
use Rattle.task_lang.specs.Views.{plans, task_of}
use Rattle.step_core.specs.JobMeaning.{start_tasks}
use Rattle.step_core.proofs.job.start_all.Given as goal

abbrev pub invariant-loop-start : goal.invariant-loop-start
invariant-loop-start l = record {
  tasks :
      map (task_of (plans l.bodies)) l.tasks.items ++ start_tasks (plans l.bodies) l.number l.rest
      ≡ start_tasks (plans l.bodies) 0 l.fn.starts;
  few : l.number + length l.rest ≤ 4096;
}

abbrev pub decreases-loop-start : goal.decreases-loop-start
decreases-loop-start l = length l.rest
