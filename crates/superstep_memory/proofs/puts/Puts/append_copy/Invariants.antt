use Rattle.std.proofs.Common.{◌≡◌, ◌++◌, length}
use Rattle.superstep_memory.specs.Lots.{puts_in}
use Rattle.superstep_memory.proofs.puts.Puts.append_copy.Given as goal

abbrev pub invariant-loop-lot : goal.invariant-loop-lot
invariant-loop-lot l = l.self ++ puts_in l.rest l.left ≡ l.fn.self ++ l.fn.others

abbrev pub decreases-loop-lot : goal.decreases-loop-lot
decreases-loop-lot l = length l.rest
