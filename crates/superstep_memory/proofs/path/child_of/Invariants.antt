use Rattle.std.proofs.Common.{◌≡◌, ◌++◌, drop}
use Rattle.superstep_memory.proofs.path.child_of.Given as goal

abbrev pub invariant-loop-one : goal.invariant-loop-one
invariant-loop-one l = record {
  numbers : l.child.items ++ (drop l.one-index l.rest) ≡ l.path.items;
  capacity : l.child.capacity ≡ 8;
}
