use Rattle.superstep_memory.proofs.LotLemmas.{first_sets, lot_written, lots_left}
use Rattle.superstep_memory.proofs.lots_landing.write_lots.Goals as goal

pub write_lot-left-requires : goal.write_lot-left-requires
write_lot-left-requires c =
    first_sets c.loop-lot.rest.now c.loop-lot.left.now c.in-Some.lot.now c.in-Some.after.now c.in-Some.ensures.cases.0
    c.loop-lot.invariant.1

pub loop-lot-preserved : goal.loop-lot-preserved
loop-lot-preserved c =
    lot_written c.loop-lot.arrays c.write_lot-left.new.arrays c.loop-lot.rest.now c.loop-lot.left.now c.write_lot-left.result.now
    c.in-Some.lot.now c.in-Some.after.now
    c.in-Some.ensures.cases.0 c.write_lot-left.ensures.arrays c.write_lot-left.ensures.rows c.loop-lot.invariant

pub returns : goal.returns
returns c = lots_left c.loop-lot.rest.now c.loop-lot.left.now c.in_default.ensures.cases c.loop-lot.invariant.0
