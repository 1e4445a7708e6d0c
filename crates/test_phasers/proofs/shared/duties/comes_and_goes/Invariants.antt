use Rattle.std.proofs.Common.{◌≡◌}
use Rattle.test_phasers.proofs.shared.duties.comes_and_goes.Given as goal

abbrev pub invariant-loop : goal.invariant-loop
invariant-loop g l = l.door.tree ≡ l.tree.tree
