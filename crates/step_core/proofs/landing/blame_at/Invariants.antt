use Rattle.std.proofs.Common.{◌≡◌, length}
use Rattle.step_core.specs.SlotParts.{path_at}
use Rattle.step_core.proofs.landing.blame_at.Given as goal

abbrev pub invariant-loop-slot : goal.invariant-loop-slot
invariant-loop-slot l = path_at l.fn.slots l.fn.place ≡ path_at l.rest l.left

abbrev pub decreases-loop-slot : goal.decreases-loop-slot
decreases-loop-slot l = length l.rest
