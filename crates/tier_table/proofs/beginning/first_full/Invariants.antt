use Rattle.std.proofs.Common.{length}
use Rattle.tier_table.proofs.AtLeaves.{HaveRoomSoFar}
use Rattle.tier_table.proofs.beginning.first_full.Given as goal

abbrev pub invariant-loop-count : goal.invariant-loop-count
invariant-loop-count l = HaveRoomSoFar l.leaves l.counts l.places l.rest

abbrev pub decreases-loop-count : goal.decreases-loop-count
decreases-loop-count l = length l.rest
