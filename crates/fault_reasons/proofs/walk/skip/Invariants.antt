use Rattle.std.proofs.Common.{◌≡◌}
use Rattle.fault_reasons.specs.Walk.{costing, passed}
use Rattle.fault_reasons.proofs.walk.skip.Given as goal

abbrev pub invariant-loop-left : goal.invariant-loop-left
invariant-loop-left l = passed l.code l.left l.place ≡ costing l.code l.first

abbrev pub decreases-loop-left : goal.decreases-loop-left
decreases-loop-left l = l.left
