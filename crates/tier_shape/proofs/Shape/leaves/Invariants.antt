use Rattle.std.proofs.Common.{◌≡◌}
use Rattle.std.specs.List.{filter, range_with_len}
use Rattle.tier_shape.specs.Leaves.{is_leaf_of}
use Rattle.tier_shape.proofs.Shape.leaves.Given as goal

abbrev pub invariant-loop-tier : goal.invariant-loop-tier
invariant-loop-tier l = l.leaves.items ≡ filter (is_leaf_of l.self) (range_with_len 0 l.tier)
