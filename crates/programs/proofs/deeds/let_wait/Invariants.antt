use Rattle.std.proofs.Common.{◌≡◌, ◌+◌, ◌≤◌, ◌++◌, List, reverse, length}
use Rattle.std.specs.Vec.{vec_len, vec_capacity}
use Rattle.programs.proofs.deeds.let_wait.Given as goal

abbrev pub invariant-loop-left : goal.invariant-loop-left
invariant-loop-left g l = record {
  front : List g.row.T.Denot;
  waits : l.waiting.items ≡ l.fn.waiting.items ++ front;
  spawned : reverse l.fn.spawns.items ≡ front ++ reverse l.spawns.items;
  count : length front + l.left ≡ l.fn.count;
  enough : l.left ≤ length l.spawns.items;
  capacity : vec_len l.waiting + l.left ≤ vec_capacity l.waiting;
  len : vec_len l.waiting + l.left ≡ vec_len l.fn.waiting + l.fn.count;
  same : vec_capacity l.waiting ≡ vec_capacity l.fn.waiting;
}

abbrev pub decreases-loop-left : goal.decreases-loop-left
decreases-loop-left g l = l.left
