use Rattle.std.proofs.Common.{◌≡◌}
use Rattle.test_groups.proofs.threads.plays.Given as goal

abbrev pub invariant-loop-phase : goal.invariant-loop-phase
invariant-loop-phase g l = (l.door.tree ≡ l.tree.tree) × (l.group.tree ≡ l.tree.tree)
