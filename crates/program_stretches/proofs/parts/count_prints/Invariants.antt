use Rattle.std.proofs.Common.{◌-◌, drop, ◌≡◌, ◌+◌, length}
use Rattle.program_stretches.specs.Parts.{prints_in}
use Rattle.program_stretches.proofs.parts.count_prints.Given as goal

abbrev pub invariant-loop-place : goal.invariant-loop-place
invariant-loop-place g l = l.count + length (prints_in (drop l.place l.parts)) ≡ length (prints_in l.fn.parts)

abbrev pub decreases-loop-place : goal.decreases-loop-place
decreases-loop-place g l = length l.parts - l.place
