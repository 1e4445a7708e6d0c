use Rattle.std.proofs.Common.{◌≡◌, ◌-◌, length}
use Rattle.program_stretches.specs.Parts.{renewed}
use Rattle.program_stretches.proofs.Along.{half}
use Rattle.program_stretches.proofs.hand_over.renew_all.Given as goal

abbrev pub invariant-loop-place : goal.invariant-loop-place
invariant-loop-place g l = l.parts.items ≡ half renewed l.place l.fn.parts.items

abbrev pub decreases-loop-place : goal.decreases-loop-place
decreases-loop-place g l = length l.parts.items - l.place
