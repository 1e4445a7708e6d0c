use Rattle.std.proofs.Common.{◌≡◌, ◌⊎◌, ℕ, Some}
use Rattle.tier_table.specs.AtLast.{HasWaited}
use Rattle.tier_calls.specs.Arrives.{IsLooked}
use Rattle.tier_table.proofs.waiting.pass_wait.Given as goal

abbrev pub invariant-loop : goal.invariant-loop
invariant-loop g l =
    (goal.iterator-loop g).can_next l.iterator' × (goal.iterator-loop g).is_finite l.iterator' × (l.crew.tree ≡ l.fn.crew.tree)
    × IsLooked l.fn.crew.view l.crew.view × ((phase : ℕ) → l.fn.crew.view.end_seen ≡ Some phase → l.crew.view.end_seen ≡ Some phase)
    × (l.crew.opened ≡ l.fn.crew.opened) × ((l.crew.steps ≡ l.fn.crew.steps) ⊎ HasWaited l.fn.crew l.crew)
