use Rattle.std.proofs.Common.{◌≡◌, ◌⊎◌, ℕ, Some}
use Rattle.tier_calls.specs.Made.{HasLooked}
use Rattle.tier_calls.specs.Passes.{IsSame}
use Rattle.tier_table.proofs.waiting.await_within.Given as goal

abbrev pub invariant-loop : goal.invariant-loop
invariant-loop g l =
    (goal.iterator-loop g).can_next l.iterator' × (goal.iterator-loop g).is_finite l.iterator' × (l.crew.tree ≡ l.fn.crew.tree)
    × IsSame l.fn.crew.view l.crew.view × ((phase : ℕ) → l.fn.crew.view.end_seen ≡ Some phase → l.crew.view.end_seen ≡ Some phase)
    × (l.crew.opened ≡ l.fn.crew.opened) × ((l.crew.steps ≡ l.fn.crew.steps) ⊎ HasLooked l.fn.crew.steps l.crew.steps)
