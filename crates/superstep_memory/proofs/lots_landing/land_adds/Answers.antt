use Rattle.superstep_memory.proofs.Taken.{on_err}
use Rattle.superstep_memory.proofs.lots_landing.land_adds.Goals as goal

pub returns-in_default-clause-memory : goal.returns-in_default-clause-memory
returns-in_default-clause-memory c = on_err _ (c.give_back_lots.ensures c.args.arrays.now c.take_lots.ensures.taken)
