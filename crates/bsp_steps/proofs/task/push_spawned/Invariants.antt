use Rattle.std.proofs.Common.{◌≡◌, ◌≤◌, ◌+◌, ◌-◌, ◌++◌}
use Rattle.task_bodies.specs.Bodies.{numbered}
use Rattle.bsp_steps.specs.Given.{all_spawned}
use Rattle.bsp_steps.proofs.task.push_spawned.Given as goal

abbrev pub invariant-loop-number : goal.invariant-loop-number
invariant-loop-number l = record {
  all : l.tasks.items ++ numbered l.path.items (l.begun + l.number) (all_spawned l.place l.number (l.count - l.number))
      ≡ l.fn.tasks.items ++ numbered l.fn.path.items l.fn.begun (all_spawned l.fn.place 0 l.fn.count);
  within : l.number ≤ l.count;
}

abbrev pub decreases-loop-number : goal.decreases-loop-number
decreases-loop-number l = l.count - l.number
