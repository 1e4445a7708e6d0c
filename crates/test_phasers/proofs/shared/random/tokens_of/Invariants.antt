use Rattle.std.proofs.Common.{◌≡◌, All, length}
use Rattle.tier_table.specs.Closes.{held}
use Rattle.test_phasers.proofs.shared.random.tokens_of.Given as goal

abbrev pub invariant-loop-player : goal.invariant-loop-player
invariant-loop-player g l =
    All (λ a. (held a.token).tree ≡ l.tree.tree) l.players.items × All (λ t. (held t).tree ≡ l.tree.tree) l.tokens.items

abbrev pub decreases-loop-player : goal.decreases-loop-player
decreases-loop-player g l = length l.players.items
