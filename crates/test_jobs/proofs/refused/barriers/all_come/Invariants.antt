use Rattle.std.proofs.Common.{◌≡◌}
use Rattle.test_jobs.proofs.refused.barriers.all_come.Given as goal

abbrev pub invariant-loop-caller : goal.invariant-loop-caller
invariant-loop-caller g l = l.core.action ≡ l.fn.core.action
