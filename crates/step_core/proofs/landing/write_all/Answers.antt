use Rattle.step_core.proofs.Deeds.{write_next, land_last}
use Rattle.step_core.proofs.landing.write_all.Goals as goal

pub loop-slot-preserved : goal.loop-slot-preserved
loop-slot-preserved c =
    write_next c.loop-slot.arrays c.loop-slot.rest c.in-Some.slot c.in-Some.after c.in-Some.ensures c.land_sets.ensures
    c.loop-slot.invariant

pub returns : goal.returns
returns c = land_last c.loop-slot.rest c.in_default.ensures c.loop-slot.invariant.0
