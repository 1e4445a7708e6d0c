use Rattle.std.proofs.Common.{◌≡◌, ◌+◌, ◌≤◌, length}
use Rattle.tier_shape.specs.Paths.{path_of}
use Rattle.tier_shape.proofs.level_of.Given as goal

abbrev pub invariant-loop-at : goal.invariant-loop-at
invariant-loop-at l = record {
  within : l.at ≤ l.tier;
  small : l.level + l.at ≤ l.tier;
  levels : l.level + length (path_of l.parents l.at) ≡ length (path_of l.parents l.tier);
}

abbrev pub decreases-loop-at : goal.decreases-loop-at
decreases-loop-at l = l.at
