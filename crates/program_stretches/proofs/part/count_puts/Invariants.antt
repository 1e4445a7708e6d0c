use Rattle.std.proofs.Common.{◌≡◌, ◌+◌, length}
use Rattle.programs.specs.InPlace.{made_in}
use Rattle.program_stretches.proofs.part.count_puts.Given as goal

abbrev pub invariant-loop-change : goal.invariant-loop-change
invariant-loop-change g l = l.count + made_in l.rest ≡ made_in l.fn.changes

abbrev pub decreases-loop-change : goal.decreases-loop-change
decreases-loop-change g l = length l.rest
