use Rattle.std.proofs.Common.{◌≡◌, length}
use Rattle.task_code.specs.Mentions as spec
use Rattle.task_code.proofs.mentions.are_in_order.Given as goal

abbrev pub invariant-loop-line : goal.invariant-loop-line
invariant-loop-line l = spec.mentioned 0 (spec.mentions l.code) ≡ spec.mentioned l.known (spec.mentions l.rest)

abbrev pub decreases-loop-line : goal.decreases-loop-line
decreases-loop-line l = length l.rest
