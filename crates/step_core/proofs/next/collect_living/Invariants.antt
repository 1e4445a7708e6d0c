use Rattle.std.proofs.Common.{◌≡◌, ◌≤◌, ◌+◌, length, reverse}
use Rattle.std.specs.Vec.{vec_len, vec_capacity}
use Rattle.superstep_memory.specs.PathOrder.{put_all, in_path_order}
use Rattle.step_core.specs.SlotParts.{path_in, living_by}
use Rattle.step_core.proofs.next.collect_living.Given as goal

abbrev pub invariant-loop-one : goal.invariant-loop-one
invariant-loop-one l = record {
  items : put_all path_in (living_by l.done.items) (reverse l.living.items) ≡ in_path_order path_in (living_by l.fn.done.items);
  capacity : vec_len l.living + length (living_by l.done.items) ≤ vec_capacity l.living;
  done : vec_capacity l.done ≡ vec_capacity l.fn.done;
}

abbrev pub decreases-loop-one : goal.decreases-loop-one
decreases-loop-one l = length l.done.items
