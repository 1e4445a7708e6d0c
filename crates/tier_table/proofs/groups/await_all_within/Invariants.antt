use Rattle.std.proofs.Common.{◌≡◌, ℕ, Some}
use Rattle.tier_table.specs.GroupsAtLast.{HaveWaited}
use Rattle.tier_table.proofs.groups.await_all_within.Given as goal

abbrev pub invariant-loop : goal.invariant-loop
invariant-loop g l =
    (goal.iterator-loop g).can_next l.iterator' × (goal.iterator-loop g).is_finite l.iterator' × HaveWaited l.fn.group l.group
    × ((phase : ℕ) → l.fn.group.view.end_seen ≡ Some phase → l.group.view.end_seen ≡ Some phase)
