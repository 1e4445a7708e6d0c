use Rattle.std.proofs.Common.{◌≡◌, ◌+◌, ◌≤◌, ◌++◌, All, length, vec_len}
use Rattle.std.specs.Vec.{vec_capacity}
use Rattle.std.specs.Vec.Iter.{into_iter_items}
use Rattle.tier_calls.specs.ArrivesWith.{OnlySplit}
use Rattle.phasers.proofs.parties.parties_of.Given as goal

abbrev pub invariant-loop-group : goal.invariant-loop-group
invariant-loop-group g l =
    (goal.iterator-loop-group g).can_next l.group-iterator × (goal.iterator-loop-group g).is_finite l.group-iterator
    × OnlySplit l.fn.door l.door
    × (l.parties.items ++ into_iter_items l.group-iterator ≡ l.fn.groups.items)
    × All (λ group. group.tree ≡ l.shared) (into_iter_items l.group-iterator)
    × (vec_len l.parties + length (into_iter_items l.group-iterator) ≤ vec_capacity l.parties)
