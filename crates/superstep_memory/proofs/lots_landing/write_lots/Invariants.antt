use Rattle.std.proofs.Common.{◌≡◌, true, length}
use Rattle.std.specs.List.{list_all}
use Rattle.superstep_memory.specs.Landing.{landed, is_set}
use Rattle.superstep_memory.specs.Lots.{puts_in}
use Rattle.superstep_memory.proofs.lots_landing.write_lots.Given as goal

abbrev pub invariant-loop-lot : goal.invariant-loop-lot
invariant-loop-lot l =
    (landed (puts_in l.fn.lots l.fn.rows) l.fn.arrays ≡ landed (puts_in l.rest l.left) l.arrays)
    × (list_all is_set (puts_in l.rest l.left) ≡ true)

abbrev pub decreases-loop-lot : goal.decreases-loop-lot
decreases-loop-lot l = length l.rest
