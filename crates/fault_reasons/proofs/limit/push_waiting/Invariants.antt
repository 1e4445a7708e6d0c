use Rattle.std.proofs.Common.{◌≡◌, ◌++◌, length}
use Rattle.fault_reasons.specs.AgainSeen.{again_seen}
use Rattle.fault_reasons.specs.Texts.{waiting}
use Rattle.fault_reasons.proofs.limit.push_waiting.Given as goal

abbrev pub invariant-loop-task : goal.invariant-loop-task
invariant-loop-task l =
    l.out.items ++ waiting (again_seen l.at) l.left l.rest ≡ l.fn.out.items ++ waiting (again_seen l.at) 5 (again_seen l.at).tasks

abbrev pub decreases-loop-task : goal.decreases-loop-task
decreases-loop-task l = length l.rest
