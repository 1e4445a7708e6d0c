use Rattle.std.proofs.Common.{◌≡◌, ◌++◌, drop}
use Rattle.step_core.proofs.reading.copy_prints.Given as goal

abbrev pub invariant-loop-print : goal.invariant-loop-print
invariant-loop-print l = l.prints.items ++ (drop l.print-index l.more) ≡ l.fn.prints.items ++ l.fn.more
