use Rattle.std.proofs.Common.{◌≡◌, ◌+◌, ◌≤◌, reverse, length}
use Rattle.std.specs.Vec.{vec_len, vec_capacity}
use Rattle.programs.specs.Regroup.{HasMoved}
use Rattle.programs.proofs.deeds.move_before.Given as goal

abbrev pub invariant-loop-first : goal.invariant-loop-first
invariant-loop-first g l = record {
  moved : HasMoved g.T.OnPath.path_of l.fn.path l.fn.living.items l.living.items (reverse l.fn.waiting.items) (reverse l.waiting.items);
  capacity : vec_len l.living + vec_len l.waiting ≤ vec_capacity l.living;
  same : vec_capacity l.living ≡ vec_capacity l.fn.living;
  wait : vec_capacity l.waiting ≡ vec_capacity l.fn.waiting;
  count : vec_len l.living + vec_len l.waiting ≡ vec_len l.fn.living + vec_len l.fn.waiting;
}

abbrev pub decreases-loop-first : goal.decreases-loop-first
decreases-loop-first g l = length l.waiting.items
