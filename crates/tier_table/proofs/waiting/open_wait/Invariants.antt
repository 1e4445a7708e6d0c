use Rattle.std.proofs.Common.{◌≡◌}
use Rattle.tier_calls.specs.Openings.{asked_tier, asked_size}
use Rattle.tier_calls.specs.Made.{MadeOnly, is_entering}
use Rattle.tier_table.proofs.waiting.open_wait.Given as goal

abbrev pub invariant-loop : goal.invariant-loop
invariant-loop g l =
    (goal.iterator-loop g).can_next l.iterator' × (goal.iterator-loop g).is_finite l.iterator' × (l.opening.token.tree ≡ l.tiers)
    × (asked_tier l.opening.token.view.errand ≡ asked_tier l.fn.opening.token.view.errand)
    × (asked_size l.opening.token.view.errand ≡ asked_size l.fn.opening.token.view.errand)
    × (l.opening.token.opened ≡ l.fn.opening.token.opened) × MadeOnly is_entering l.fn.opening.token.steps l.opening.token.steps
