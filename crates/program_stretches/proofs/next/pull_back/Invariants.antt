use Rattle.std.proofs.Common.{◌≡◌, ◌++◌, length, reverse}
use Rattle.program_stretches.proofs.next.pull_back.Given as goal

abbrev pub invariant-loop-last : goal.invariant-loop-last
invariant-loop-last g l = l.tasks.items ++ reverse l.strays.items ≡ l.fn.tasks.items ++ reverse l.fn.strays.items

abbrev pub decreases-loop-last : goal.decreases-loop-last
decreases-loop-last g l = length l.tasks.items
