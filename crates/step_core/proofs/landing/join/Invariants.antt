use Rattle.std.proofs.Common.{◌≡◌, ◌++◌, length}
use Rattle.step_core.specs.SlotParts.{log_in}
use Rattle.step_core.proofs.landing.join.Given as goal

abbrev pub invariant-loop-slot : goal.invariant-loop-slot
invariant-loop-slot l = l.puts ++ log_in l.rest ≡ log_in l.fn.slots

abbrev pub decreases-loop-slot : goal.decreases-loop-slot
decreases-loop-slot l = length l.rest
