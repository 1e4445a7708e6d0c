use Rattle.std.proofs.Common.{length}
use Rattle.superstep_memory.specs.Lots.{puts_in}
use Rattle.superstep_memory.proofs.Taken.{IsTaking}
use Rattle.superstep_memory.proofs.lots_landing.take_lots.Given as goal

abbrev pub invariant-loop-lot : goal.invariant-loop-lot
invariant-loop-lot l = IsTaking (puts_in l.lots l.rows) l.place (puts_in l.rest l.left) l.olds.items l.fn.arrays l.arrays

abbrev pub decreases-loop-lot : goal.decreases-loop-lot
decreases-loop-lot l = length l.rest
