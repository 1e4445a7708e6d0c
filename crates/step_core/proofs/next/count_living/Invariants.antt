use Rattle.std.proofs.Common.{◌≡◌, ◌≤◌, ◌+◌, ◌*◌, length}
use Rattle.step_core.specs.SlotParts.{AllSmall, living_in}
use Rattle.step_core.proofs.next.count_living.Given as goal

abbrev pub invariant-loop-slot : goal.invariant-loop-slot
invariant-loop-slot l = record {
  count : l.count + length (living_in l.rest) ≡ length (living_in l.fn.slots);
  few : l.count + 9 * length l.rest ≤ 36864;
  small : AllSmall l.rest;
}

abbrev pub decreases-loop-slot : goal.decreases-loop-slot
decreases-loop-slot l = length l.rest
