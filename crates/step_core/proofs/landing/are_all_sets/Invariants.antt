use Rattle.std.proofs.Common.{◌≡◌, length}
use Rattle.std.specs.List.{list_all}
use Rattle.superstep_memory.specs.Landing.{is_set}
use Rattle.step_core.specs.SlotParts.{log_in}
use Rattle.step_core.proofs.landing.are_all_sets.Given as goal

abbrev pub invariant-loop-slot : goal.invariant-loop-slot
invariant-loop-slot l = list_all is_set (log_in l.fn.slots) ≡ list_all is_set (log_in l.rest)

abbrev pub decreases-loop-slot : goal.decreases-loop-slot
decreases-loop-slot l = length l.rest
