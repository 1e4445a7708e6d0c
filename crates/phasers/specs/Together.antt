-- What the calls of parties that arrive together answer, as what the calls of `tier_table` answer: parties are the group that they keep.
use Rattle.std.specs.Prelude.{◌≡◌, ℕ, ◌-◌, ◌<◌, ◌≤◌, List, length}
use Rattle.tier_shape.specs.Leaves.{leaves_of}
use Rattle.tier_calls.specs.Holding.{Named, Holding, IsSat}
use Rattle.tier_calls.specs.Groups.{GroupHeld}
use Rattle.tier_calls.specs.Splits.{SplitAt}
use Rattle.tier_calls.specs.ArrivesWith.{OnlySplit}
use Rattle.tier_table.specs.GroupMembersAtLast.{LeavesAllAtLast}
use Rattle.tier_table.specs.Beginning.{AreAtLeaves, HaveRoom, IsFirstFull, StopsAt}
use Rattle.tier_table.specs.declared.groups.GroupArrived.{GroupArrived}
use Rattle.tier_table.specs.declared.groups.GroupArrived.TheVariants as arrived
use Rattle.tier_table.specs.declared.group_members.GroupJoined.{GroupJoined}
use Rattle.tier_table.specs.declared.group_members.GroupJoined.TheVariants as joined
use Rattle.tier_table.specs.declared.group_members.GroupLeft.{GroupLeft}
use Rattle.tier_table.specs.declared.group_members.GroupLeft.TheVariants as left
use Rattle.tier_table.specs.declared.group_members.GroupRegistered.{GroupRegistered}
use Rattle.tier_table.specs.declared.group_members.GroupRegistered.TheVariants as registered
use Rattle.phasers.specs.declared.parties.JoinedParties.{JoinedParties}
use Rattle.phasers.specs.declared.parties.JoinedParties.TheVariants as own_joined
use Rattle.phasers.specs.declared.parties.PartiesArrived.{PartiesArrived}
use Rattle.phasers.specs.declared.parties.PartiesArrived.TheVariants as own_arrived
use Rattle.phasers.specs.declared.parties.PartiesBrought.{PartiesBrought}
use Rattle.phasers.specs.declared.parties.PartiesBrought.TheVariants as own_brought
use Rattle.phasers.specs.declared.parties.PartiesLeft.{PartiesLeft}
use Rattle.phasers.specs.declared.parties.PartiesLeft.TheVariants as own_left
use Rattle.phasers.specs.declared.parties.Unjoined.{Unjoined}
use Rattle.phasers.specs.declared.parties.Unjoined.TheVariants.{Memory, Full, NoLeaf, Stopped}

abbrev pub group_arrived : {A : Type 0} → PartiesArrived A → GroupArrived
group_arrived (own_arrived.Done parties phase led) = arrived.Done parties phase led
group_arrived (own_arrived.Full parties count) = arrived.Full parties count
group_arrived (own_arrived.AlreadyArrived parties phase) = arrived.AlreadyArrived parties phase
group_arrived (own_arrived.Ended parties shown) = arrived.Ended parties shown

abbrev pub group_joined : {A : Type 0} → PartiesBrought A → GroupJoined
group_joined (own_brought.Joined parties phase) = joined.Joined parties phase
group_joined (own_brought.Full parties count) = joined.Full parties count
group_joined (own_brought.AlreadyArrived parties phase) = joined.AlreadyArrived parties phase
group_joined (own_brought.Ended parties shown) = joined.Ended parties shown

abbrev pub group_left : {A : Type 0} → PartiesLeft A → GroupLeft
group_left (own_left.Left guest phase led) = left.Left guest phase led
group_left (own_left.AlreadyArrived parties phase) = left.AlreadyArrived parties phase
group_left (own_left.Ended parties shown) = left.Ended parties shown

abbrev pub group_registered : {A : Type 0} → JoinedParties A → GroupRegistered
group_registered (own_joined.Joined parties phase) = registered.Joined parties phase
group_registered (own_joined.Partly parties count) = registered.Partly parties count
group_registered (own_joined.Full guest count) = registered.Full guest count
group_registered (own_joined.Ended guest shown) = registered.Ended guest shown
group_registered (own_joined.PartlyEnded parties shown) = registered.PartlyEnded parties shown

-- Why some members have not joined at the leaves: memory ran out, a leaf was to have more than it has room for, there are more counts than
-- leaves, or a leaf has stopped.
abbrev pub JoinsNot : {A : Type 0} → ℕ → Named → ℕ → List ℕ → Unjoined A → Type 0
JoinsNot tries n phase counts (Memory fault) = Unit {0}
JoinsNot tries n phase counts (Full tier members) = IsFirstFull (leaves_of n.key.shape) counts tier members
JoinsNot tries n phase counts (NoLeaf leaves) = (leaves ≡ length (leaves_of n.key.shape)) × (leaves < length counts)
JoinsNot tries n phase counts (Stopped parties tier answer) =
    HaveRoom counts × StopsAt tries n phase (leaves_of n.key.shape) counts parties.items tier (group_registered answer)

-- A guest that has just read the root, off which only other tokens were split, and parties at the leaves, all unarrived in its phase.
pub record BeginsIn (n : Named) (counts : List ℕ) (guest : Holding) (parties : List GroupHeld) : Type 0 where
  pub new : Holding
  pub sat : IsSat n new
  pub split : OnlySplit new guest
  pub leaves : length counts ≤ length (leaves_of n.key.shape)
  pub capacity : HaveRoom counts
  pub members : AreAtLeaves n guest.view.phase (leaves_of n.key.shape) counts parties

-- why some members have not joined in the phase of such a guest
abbrev pub BeginsNotIn : {A : Type 0} → ℕ → Named → List ℕ → Unjoined A → Type 0
BeginsNotIn tries n counts fault = (guest : Holding) × IsSat n guest × JoinsNot tries n guest.view.phase counts fault

-- The last `n` of the members are split off, and leave all together.
abbrev pub LeavesSome : {A : Type 0} → ℕ → ℕ → GroupHeld → GroupHeld → PartiesLeft A → Type 0
LeavesSome tries n old new answer =
    (others : GroupHeld) × SplitAt (length old.tokens - n) old new others × LeavesAllAtLast tries others (group_left answer)
