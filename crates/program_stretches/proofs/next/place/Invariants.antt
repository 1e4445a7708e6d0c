use Rattle.std.proofs.Common.{reverse}
use Rattle.program_stretches.proofs.Pieces.{IsPlaced}
use Rattle.program_stretches.proofs.next.place.Given as goal

abbrev pub invariant-loop-place : goal.invariant-loop-place
invariant-loop-place g l =
    IsPlaced g.T.OnPath.path_of l.fn.pieces.items (reverse l.fn.strays.items) l.place l.pieces.items (reverse l.strays.items)

abbrev pub decreases-loop-place : goal.decreases-loop-place
decreases-loop-place g l = l.place
