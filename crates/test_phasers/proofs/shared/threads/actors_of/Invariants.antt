use Rattle.std.proofs.Common.{◌≡◌, All}
use Rattle.tier_table.specs.Closes.{held}
use Rattle.test_phasers.proofs.shared.threads.actors_of.Given as goal

abbrev pub invariant-loop-duties : goal.invariant-loop-duties
invariant-loop-duties g l = (l.door.tree ≡ l.tree.tree) × All (λ a. (held a.token).tree ≡ l.tree.tree) l.actors.items
