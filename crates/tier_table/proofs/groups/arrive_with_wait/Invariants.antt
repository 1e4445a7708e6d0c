use Rattle.std.proofs.Common.{◌≡◌, ℕ, Some}
use Rattle.tier_calls.specs.ArrivesWith.{OnlySplit}
use Rattle.tier_table.specs.GroupsAtLast.{IsBefore}
use Rattle.tier_table.proofs.groups.arrive_with_wait.Given as goal

abbrev pub invariant-loop : goal.invariant-loop
invariant-loop g l =
    (goal.iterator-loop g).can_next l.iterator' × (goal.iterator-loop g).is_finite l.iterator' × IsBefore l.fn.group l.group
    × OnlySplit l.fn.door l.door × ((phase : ℕ) → l.fn.group.view.end_seen ≡ Some phase → l.group.view.end_seen ≡ Some phase)
