use Rattle.program_stretches.proofs.Pieces.{part_next, none_next}
use Rattle.program_stretches.proofs.next.next_pieces.Goals as goal

pub add_part-requires-clause-can : goal.add_part-requires-clause-can
add_part-requires-clause-can g c =
    (part_next g.T.OnPath.path_of c.args.parts.items c.loop-slot.parts.items c.pop.new.self.items c.in-Some.slot c.in-Some-slot.part
    c.loop-slot.pieces.items c.loop-slot.invariant c.in-Some.ensures.items c.in-Some-slot.is).0

pub loop-slot-preserved-in-Continue-branch-2 : goal.loop-slot-preserved-in-Continue-branch-2
loop-slot-preserved-in-Continue-branch-2 g c =
    (part_next g.T.OnPath.path_of c.args.parts.items c.loop-slot.parts.items c.pop.new.self.items c.in-Some.slot c.in-Some-slot.part
    c.loop-slot.pieces.items c.loop-slot.invariant c.in-Some.ensures.items c.in-Some-slot.is).1
    c.add_part.new.pieces.items c.in_ok-add_part.ensures.tasks c.in_ok-add_part.ensures.empty

pub loop-slot-preserved : goal.loop-slot-preserved
loop-slot-preserved g c =
    none_next g.T.OnPath.path_of c.args.parts.items c.loop-slot.parts.items c.pop.new.self.items c.in-Some.slot c.loop-slot.pieces.items
    c.loop-slot.invariant c.in-Some.ensures.items c.in_default-slot.is
