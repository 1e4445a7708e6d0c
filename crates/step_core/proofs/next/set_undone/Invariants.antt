use Rattle.std.proofs.Common.{◌≡◌, ◌≤◌, ◌+◌, ◌++◌, map, length}
use Rattle.std.specs.Vec.{vec_len, vec_capacity}
use Rattle.step_core.specs.SlotParts.{no_segment}
use Rattle.step_core.proofs.next.set_undone.Given as goal

abbrev pub invariant-loop-after : goal.invariant-loop-after
invariant-loop-after l = record {
  items : l.done.items ++ map no_segment l.rest ≡ map no_segment l.fn.tasks;
  capacity : vec_len l.done + length l.rest ≤ vec_capacity l.done;
}

abbrev pub decreases-loop-after : goal.decreases-loop-after
decreases-loop-after l = length l.rest
