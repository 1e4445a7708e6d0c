use Rattle.std.proofs.Common.{◌≡◌, ◌≤◌, ◌-◌, ◌++◌, []}
use Rattle.task_bodies.specs.Bodies.{numbered}
use Rattle.bsp_steps.specs.Given.{start_origins}
use Rattle.bsp_steps.proofs.task.start_tasks.Given as goal

abbrev pub invariant-loop-place : goal.invariant-loop-place
invariant-loop-place l = record {
  all : l.tasks.items ++ numbered [] l.place (start_origins l.place (l.count - l.place)) ≡ numbered [] 0 (start_origins 0 l.fn.count);
  within : l.place ≤ l.count;
}

abbrev pub decreases-loop-place : goal.decreases-loop-place
decreases-loop-place l = l.count - l.place
