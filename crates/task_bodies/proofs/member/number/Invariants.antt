use Rattle.std.proofs.Common.{◌≡◌, ◌+◌, ◌++◌, length, reverse}
use Rattle.task_bodies.specs.Bodies.{numbered}
use Rattle.task_bodies.proofs.member.number.Given as goal

abbrev pub invariant-loop-kept : goal.invariant-loop-kept
invariant-loop-kept g l = record {
  same : l.out.items ++ numbered l.path.items l.next (reverse l.spawns.items) ≡ numbered l.path.items l.begun l.fn.spawns.items;
  count : l.next + length l.spawns.items ≡ l.begun + length l.fn.spawns.items;
}

abbrev pub decreases-loop-kept : goal.decreases-loop-kept
decreases-loop-kept g l = length l.spawns.items
