use Rattle.std.proofs.Common.{◌≡◌}
use Rattle.tier_calls.specs.Passes.{IsSame}
use Rattle.tier_calls.specs.Made.{MadeOnly, is_upward}
use Rattle.tier_table.proofs.waiting.resume_wait.Given as goal

abbrev pub invariant-loop : goal.invariant-loop
invariant-loop g l =
    (goal.iterator-loop g).can_next l.iterator' × (goal.iterator-loop g).is_finite l.iterator'
    × (l.errand.token.tree ≡ l.fn.errand.token.tree)
    × IsSame l.fn.errand.token.view l.errand.token.view × (l.errand.token.opened ≡ l.fn.errand.token.opened)
    × MadeOnly is_upward l.fn.errand.token.steps l.errand.token.steps
