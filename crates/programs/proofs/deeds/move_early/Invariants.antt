use Rattle.std.proofs.Common.{◌≡◌, ◌+◌, ◌-◌, ◌≤◌, reverse, length}
use Rattle.std.specs.Option.{option_map}
use Rattle.std.specs.Vec.{vec_len, vec_capacity}
use Rattle.programs.specs.Regroup.{HasMovedEarly}
use Rattle.programs.proofs.deeds.move_early.Given as goal

abbrev pub invariant-loop-left : goal.invariant-loop-left
invariant-loop-left g l = record {
  moved : HasMovedEarly g.T.OnPath.path_of (option_map (λ p. p.items) l.fn.bound) (reverse l.fn.tasks) l.fn.living.items l.living.items
      (reverse l.fn.spawns.items) (reverse l.spawns.items) (l.fn.count - l.left);
  left : l.left ≤ l.fn.count;
  enough : l.left ≤ length l.spawns.items;
  capacity : vec_len l.living + l.left ≤ vec_capacity l.living;
  same : vec_capacity l.living ≡ vec_capacity l.fn.living;
  len : vec_len l.living + l.left ≡ vec_len l.fn.living + l.fn.count;
}

abbrev pub decreases-loop-left : goal.decreases-loop-left
decreases-loop-left g l = l.left
