use Rattle.std.proofs.Common.{◌≡◌}
use Rattle.test_phasers.proofs.written.passes.Given as goal

abbrev pub invariant-loop-phase : goal.invariant-loop-phase
invariant-loop-phase g l = l.crew.tree ≡ l.tree.tree
