use Rattle.std.proofs.Common.{◌≡◌, ℕ, ◌+◌, ◌<◌, ◌≤◌, All, length, vec_len}
use Rattle.std.specs.Vec.{vec_capacity}
use Rattle.tier_calls.specs.ArrivesWith.{OnlySplit}
use Rattle.tier_table.specs.declared.group_members.GroupRegistered.{GroupRegistered}
use Rattle.tier_table.specs.Beginning.{AreAtLeaves, HaveRoom, StopsAt}
use Rattle.tier_table.proofs.AtLeaves.{Completes}
use Rattle.tier_table.proofs.beginning.register_leaves.Given as goal

abbrev pub invariant-loop-count : goal.invariant-loop-count
invariant-loop-count g l = record {
  groups : Completes (AreAtLeaves l.tiers l.phase) l.leaves l.counts l.places l.rest l.groups.items;
  stops : (tier : ℕ) (answer : GroupRegistered)
      → Completes (λ p r h. StopsAt 16 l.tiers l.phase p r h tier answer) l.leaves l.counts l.places l.rest l.groups.items;
  all_fit : HaveRoom l.counts;
  door : OnlySplit l.fn.door l.door;
  opened : l.door.opened ≡ l.fn.door.opened + length l.groups.items;
  tiers : All (λ leaf. leaf < length l.tiers.key.shape) l.places;
  capacity : vec_len l.groups + length l.rest ≤ vec_capacity l.groups;
}

abbrev pub decreases-loop-count : goal.decreases-loop-count
decreases-loop-count g l = length l.rest
