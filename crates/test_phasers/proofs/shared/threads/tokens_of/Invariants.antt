use Rattle.std.proofs.Common.{◌≡◌, All, length}
use Rattle.tier_table.specs.Closes.{held}
use Rattle.test_phasers.proofs.shared.threads.tokens_of.Given as goal

abbrev pub invariant-loop-actor : goal.invariant-loop-actor
invariant-loop-actor g l =
    All (λ a. (held a.token).tree ≡ l.tree.tree) l.actors.items × All (λ t. (held t).tree ≡ l.tree.tree) l.tokens.items

abbrev pub decreases-loop-actor : goal.decreases-loop-actor
decreases-loop-actor g l = length l.actors.items
