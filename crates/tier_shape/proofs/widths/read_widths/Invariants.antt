use Rattle.std.proofs.Common.{◌≡◌}
use Rattle.tier_shape.proofs.Joined.{IsReadTo, left_of, size_of}
use Rattle.tier_shape.proofs.widths.read_widths.Given as goal

abbrev pub invariant-loop-rest : goal.invariant-loop-rest
invariant-loop-rest l = (l.widths.capacity ≡ 6) × IsReadTo l.fn.text (left_of l.rest) l.widths.items l.deep

abbrev pub decreases-loop-rest : goal.decreases-loop-rest
decreases-loop-rest l = size_of l.rest
