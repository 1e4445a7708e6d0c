use Rattle.std.proofs.Common.{◌≡◌, take, map, vec_capacity}
use Rattle.tier_calls.specs.Closes.{plain_group}
use Rattle.tier_calls.proofs.closing.plain_groups.Given as goal

abbrev pub invariant-loop-group : goal.invariant-loop-group
invariant-loop-group l =
    (l.plains.items ≡ map plain_group (take l.group-index l.groups)) × (vec_capacity l.plains ≡ vec_capacity l.fn.plains)
