use Rattle.std.proofs.Common.{◌≡◌}
use Rattle.test_groups.specs.Seats.{tree_at}
use Rattle.test_groups.proofs.random.played.Given as goal

abbrev pub invariant-loop-number : goal.invariant-loop-number
invariant-loop-number g l =
    (l.spare.tree ≡ l.tree.tree) × (tree_at l.zero.seat ≡ l.tree.tree) × (tree_at l.one.seat ≡ l.tree.tree)
    × (tree_at l.two.seat ≡ l.tree.tree)
