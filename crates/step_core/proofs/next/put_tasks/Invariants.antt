use Rattle.std.proofs.Common.{◌≡◌, ◌+◌, length, reverse}
use Rattle.std.specs.Vec.{vec_len, vec_capacity}
use Rattle.superstep_memory.specs.PathOrder.{put_all}
use Rattle.step_core.specs.SlotParts.{path_in}
use Rattle.step_core.proofs.next.put_tasks.Given as goal

abbrev pub invariant-loop-task : goal.invariant-loop-task
invariant-loop-task l = record {
  items : put_all path_in l.rest.items (reverse l.living.items) ≡ put_all path_in l.fn.tasks.items (reverse l.fn.living.items);
  more : vec_len l.living + length l.rest.items ≡ vec_len l.fn.living + length l.fn.tasks.items;
  capacity : vec_capacity l.living ≡ vec_capacity l.fn.living;
}

abbrev pub decreases-loop-task : goal.decreases-loop-task
decreases-loop-task l = length l.rest.items
