use Rattle.std.proofs.Common.{◌≡◌, All}
use Rattle.tier_table.specs.Closes.{held}
use Rattle.test_phasers.proofs.shared.random.players.Given as goal

abbrev pub invariant-loop-number : goal.invariant-loop-number
invariant-loop-number g l = (l.door.tree ≡ l.tree.tree) × All (λ a. (held a.token).tree ≡ l.tree.tree) l.players.items
