use Rattle.std.proofs.Common.{length}
use Rattle.program_stretches.proofs.Making.{IsMade}
use Rattle.program_stretches.proofs.next.make_parts.Given as goal

abbrev pub invariant-loop-piece : goal.invariant-loop-piece
invariant-loop-piece g l = IsMade l.fn.pieces.items l.end l.pieces.items l.parts.items

abbrev pub decreases-loop-piece : goal.decreases-loop-piece
decreases-loop-piece g l = length l.pieces.items
