use Rattle.std.proofs.Common.{◌+◌, ◌≤◌, length, reverse}
use Rattle.std.specs.Vec.{vec_len, vec_capacity}
use Rattle.program_stretches.proofs.Placing.{Merges}
use Rattle.program_stretches.proofs.next.merge.Given as goal

abbrev pub invariant-loop-tasks : goal.invariant-loop-tasks
invariant-loop-tasks g l = record {
  merges : Merges g.T.OnPath.path_of (reverse l.fn.tasks.items) (reverse l.fn.strays.items) l.all.items (reverse l.tasks.items)
      (reverse l.strays.items);
  capacity : vec_len l.tasks + vec_len l.strays + vec_len l.all ≤ vec_capacity l.all;
}

abbrev pub decreases-loop-tasks : goal.decreases-loop-tasks
decreases-loop-tasks g l = length l.tasks.items + length l.strays.items
