use Rattle.std.proofs.Common.{◌≡◌, length}
use Rattle.program_stretches.specs.Next.{all_in}
use Rattle.program_stretches.proofs.next.first_in.Given as goal

abbrev pub invariant-loop-last : goal.invariant-loop-last
invariant-loop-last g l = all_in l.rest ≡ all_in l.fn.pieces

abbrev pub decreases-loop-last : goal.decreases-loop-last
decreases-loop-last g l = length l.rest
