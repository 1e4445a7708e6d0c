use Rattle.std.proofs.Common.{◌-◌, drop, ◌≡◌, length}
use Rattle.program_stretches.specs.Parts.{fault_in}
use Rattle.program_stretches.proofs.parts.find_fault.Given as goal

abbrev pub invariant-loop-place : goal.invariant-loop-place
invariant-loop-place g l = fault_in (drop l.place l.parts) ≡ fault_in l.fn.parts

abbrev pub decreases-loop-place : goal.decreases-loop-place
decreases-loop-place g l = length l.parts - l.place
