use Rattle.std.proofs.Common.{◌≡◌, ◌++◌, length, drop}
use Rattle.bsp_steps.specs.Given.{placed_from}
use Rattle.bsp_steps.proofs.run.copy_placed.Given as goal

abbrev pub invariant-loop-task : goal.invariant-loop-task
invariant-loop-task l = record {
  copied : l.copies.items ++ placed_from (length l.copies.items) (drop l.task-index l.tasks) ≡ placed_from 0 l.fn.tasks;
}
