use Rattle.std.proofs.Common.{◌≡◌, [], ◌++◌, All, vec_len}
use Rattle.tier_calls.specs.Groups.{GroupHeld}
use Rattle.tier_calls.specs.Closes.{sights_together}
use Rattle.tier_calls.proofs.tiers.Tiers.gather_groups.Given as goal

abbrev pub invariant-loop-group : goal.invariant-loop-group
invariant-loop-group l =
    (l.seat.table_id ≡ l.fn.seat.table_id) × (l.seat.me.1 ≡ []) × All (λ (g : GroupHeld). g.tree ≡ l.self) l.groups.items
    × (sights_together l.groups.items ++ l.seat.me.0 ≡ sights_together l.fn.groups.items ++ l.fn.seat.me.0)

abbrev pub decreases-loop-group : goal.decreases-loop-group
decreases-loop-group l = vec_len l.groups
