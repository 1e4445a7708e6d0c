use Rattle.std.proofs.Common.{◌≡◌}
use Rattle.test_phasers.specs.Holders.{tree_of}
use Rattle.test_phasers.proofs.shared.random.settled.Given as goal

abbrev pub invariant-loop : goal.invariant-loop
invariant-loop g l = tree_of l.holder ≡ l.tree.tree
