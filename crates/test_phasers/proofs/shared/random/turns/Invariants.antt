use Rattle.std.proofs.Common.{◌≡◌}
use Rattle.test_phasers.specs.Holders.{tree_of}
use Rattle.test_phasers.proofs.shared.random.turns.Given as goal

abbrev pub invariant-loop-number : goal.invariant-loop-number
invariant-loop-number g l = tree_of l.holder ≡ l.tree.tree
