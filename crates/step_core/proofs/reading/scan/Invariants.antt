use Rattle.std.proofs.Common.{◌≡◌, ◌+◌, length, drop}
use Rattle.step_core.specs.Taking.{is_live}
use Rattle.step_core.proofs.reading.scan.Given as goal

abbrev pub invariant-loop-slot : goal.invariant-loop-slot
invariant-loop-slot l = record {
  rest : l.rest ≡ drop l.place l.fn.slots;
  live : is_live l.fn.slots l.path ≡ is_live l.rest l.path;
  count : l.place + length l.rest ≡ length l.fn.slots;
}

abbrev pub decreases-loop-slot : goal.decreases-loop-slot
decreases-loop-slot l = length l.rest
