use Rattle.std.proofs.Common.{◌≡◌, ◌⊎◌, ℕ, Some}
use Rattle.tier_calls.specs.Made.{HasEntered}
use Rattle.tier_table.proofs.waiting.register_within.Given as goal

abbrev pub invariant-loop : goal.invariant-loop
invariant-loop g l =
    (goal.iterator-loop g).can_next l.iterator' × (goal.iterator-loop g).is_finite l.iterator' × (l.door.tree ≡ l.tiers)
    × ((phase : ℕ) → l.fn.door.view.end_seen ≡ Some phase → l.door.view.end_seen ≡ Some phase)
    × (l.door.opened ≡ l.fn.door.opened) × ((l.door.steps ≡ l.fn.door.steps) ⊎ HasEntered l.fn.door.steps l.door.steps)
