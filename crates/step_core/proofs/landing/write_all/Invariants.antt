use Rattle.std.proofs.Common.{◌≡◌, true, length}
use Rattle.std.specs.List.{list_all}
use Rattle.superstep_memory.specs.Landing.{landed, is_set}
use Rattle.step_core.specs.SlotParts.{log_in}
use Rattle.step_core.proofs.landing.write_all.Given as goal

abbrev pub invariant-loop-slot : goal.invariant-loop-slot
invariant-loop-slot l =
    (landed (log_in l.rest) l.arrays ≡ landed (log_in l.fn.slots) l.fn.arrays) × (list_all is_set (log_in l.rest) ≡ true)

abbrev pub decreases-loop-slot : goal.decreases-loop-slot
decreases-loop-slot l = length l.rest
