use Rattle.std.proofs.Common.{◌≡◌, ◌<◌, ◌++◌, length}
use Rattle.tier_shape.specs.Paths.{path_of}
use Rattle.tier_shape.proofs.Shape.path_up.Given as goal

abbrev pub invariant-loop-at : goal.invariant-loop-at
invariant-loop-at l = record {
  within : l.at < length l.self-inside.parents.items;
  capacity : l.path.capacity ≡ 7;
  way : l.path.items ++ path_of l.self-inside.parents.items l.at ≡ path_of l.self-inside.parents.items l.tier;
}

abbrev pub decreases-loop-at : goal.decreases-loop-at
decreases-loop-at l = l.at
