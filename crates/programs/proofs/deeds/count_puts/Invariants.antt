use Rattle.std.proofs.Common.{◌≡◌, ◌+◌, length}
use Rattle.programs.specs.DeedsView.{made_by}
use Rattle.programs.proofs.deeds.count_puts.Given as goal

abbrev pub invariant-loop-deed : goal.invariant-loop-deed
invariant-loop-deed l = l.count + made_by l.rest ≡ made_by l.fn.each

abbrev pub decreases-loop-deed : goal.decreases-loop-deed
decreases-loop-deed l = length l.rest
