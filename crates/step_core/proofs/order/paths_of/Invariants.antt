use Rattle.std.proofs.Common.{◌≡◌, ◌++◌, map, drop}
use Rattle.step_core.specs.SlotParts.{path_of, path_in}
use Rattle.step_core.proofs.order.paths_of.Given as goal

abbrev pub invariant-loop-task : goal.invariant-loop-task
invariant-loop-task l = map path_of l.paths.items ++ map path_in (drop l.task-index l.tasks) ≡ map path_in l.fn.tasks
