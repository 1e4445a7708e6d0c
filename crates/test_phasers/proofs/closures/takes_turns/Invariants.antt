use Rattle.std.proofs.Common.{◌≡◌}
use Rattle.test_phasers.proofs.closures.takes_turns.Given as goal

abbrev pub invariant-loop-caller : goal.invariant-loop-caller
invariant-loop-caller g l = l.barrier.action ≡ l.fn.barrier.action
