use Rattle.std.proofs.Common.{◌≡◌, ◌+◌, length}
use Rattle.tier_shape.specs.Preferred.{number_in}
use Rattle.tier_shape.proofs.leaves.number_in.Given as goal

abbrev pub invariant-loop-one : goal.invariant-loop-one
invariant-loop-one l = record {
  number : l.number + number_in l.rest l.leaf ≡ number_in l.fn.leaves l.leaf;
  count : l.number + length l.rest ≡ length l.fn.leaves;
}

abbrev pub decreases-loop-one : goal.decreases-loop-one
decreases-loop-one l = length l.rest
