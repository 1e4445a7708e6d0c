use Rattle.std.proofs.Common.{length}
use Rattle.program_stretches.proofs.Pieces.{IsGathered}
use Rattle.program_stretches.proofs.next.next_pieces.Given as goal

abbrev pub invariant-loop-slot : goal.invariant-loop-slot
invariant-loop-slot g l = IsGathered g.T.OnPath.path_of l.fn.parts.items l.parts.items l.pieces.items

abbrev pub decreases-loop-slot : goal.decreases-loop-slot
decreases-loop-slot g l = length l.parts.items
