use Rattle.std.proofs.Common.{◌≡◌, ◌++◌}
use Rattle.refusal_reasons.specs.Faults.{faulty, faults_in}
use Rattle.refusal_reasons.proofs.faults.faults_of.Given as goal

abbrev pub invariant-loop-left : goal.invariant-loop-left
invariant-loop-left l = l.faults.items ++ faulty l.left l.other.items ≡ faults_in l.text

abbrev pub decreases-loop-left : goal.decreases-loop-left
decreases-loop-left l = l.left
