use Rattle.std.proofs.Common.{◌≡◌, ◌+◌, ◌≤◌, ◌++◌, reverse, length}
use Rattle.std.specs.Vec.{vec_len, vec_capacity}
use Rattle.programs.proofs.deeds.move_all.Given as goal

abbrev pub invariant-loop-task : goal.invariant-loop-task
invariant-loop-task g l = record {
  items : l.living.items ++ reverse l.waiting.items ≡ l.fn.living.items ++ reverse l.fn.waiting.items;
  capacity : vec_len l.living + vec_len l.waiting ≤ vec_capacity l.living;
}

abbrev pub decreases-loop-task : goal.decreases-loop-task
decreases-loop-task g l = length l.waiting.items
