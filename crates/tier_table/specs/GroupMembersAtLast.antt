-- What registrations and departures of groups answer that wait: as the calls that they repeat (not part of Java's API).
use Rattle.std.specs.Prelude.{◌≡◌, ℕ, zero, suc, ◌-◌, ◌<◌, ◌⊎◌, Bool, false, length}
use Rattle.tier_calls.specs.Holding.{Named, Holding, split_once}
use Rattle.tier_calls.specs.Groups.{GroupHeld}
use Rattle.tier_calls.specs.Splits.{alone}
use Rattle.tier_calls.specs.JoinsAll.{JoinsAll}
use Rattle.tier_calls.specs.LeavesAll.{LeavesAll}
use Rattle.tier_calls.specs.RegistersAll.{AreRegistered}
use Rattle.tier_calls.specs.declared.going.Going.{Going}
use Rattle.tier_calls.specs.declared.joining_all.JoinedAll.TheVariants as joined
use Rattle.tier_calls.specs.declared.leaving_all.LeftAll.TheVariants as left
use Rattle.tier_table.specs.AtLast.{ResumesAtLast, ResumedBy, RegistersAtLast, LedAtLast}
use Rattle.tier_table.specs.GroupsAtLast.{IsBefore}
use Rattle.tier_table.specs.declared.waiting.ArrivedAtLast.TheVariants as counted
use Rattle.tier_table.specs.declared.waiting.RegisteredAtLast.TheVariants as admitted
use Rattle.tier_table.specs.declared.group_members.GroupJoined.{GroupJoined}
use Rattle.tier_table.specs.declared.group_members.GroupJoined.TheVariants as group_joined
use Rattle.tier_table.specs.declared.group_members.GroupRegistered.{GroupRegistered}
use Rattle.tier_table.specs.declared.group_members.GroupRegistered.TheVariants as group_registered
use Rattle.tier_table.specs.declared.group_members.GroupLeft.{GroupLeft}
use Rattle.tier_table.specs.declared.group_members.GroupLeft.TheVariants as group_left

-- what a registration beside a group answers
abbrev pub JoinsAllAtLast : ℕ → ℕ → GroupHeld → GroupJoined → Type 0
JoinsAllAtLast tries n old (group_joined.Joined new phase) =
    (last : GroupHeld) × IsBefore old last × JoinsAll tries n last (joined.Joined new phase)
JoinsAllAtLast tries n old (group_joined.Full new parties) =
    (last : GroupHeld) × IsBefore old last × JoinsAll tries n last (joined.Full new parties)
JoinsAllAtLast tries n old (group_joined.AlreadyArrived new phase) =
    (last : GroupHeld) × IsBefore old last × JoinsAll tries n last (joined.AlreadyArrived new phase)
JoinsAllAtLast tries n old (group_joined.Ended new shown) =
    (last : GroupHeld) × IsBefore old last × JoinsAll tries n last (joined.Ended new shown)

-- All members have left, by one exchange. If they were the last of their tier, what follows was done too; the call advanced the tree only
-- if all had arrived.
abbrev pub AllLeaveAtLast : ℕ → GroupHeld → Holding → ℕ → Bool → Type 0
AllLeaveAtLast tries last door phase led =
    (LeavesAll last tries (left.Left door phase) × (led ≡ false))
    ⊎ ((errand : Going) × LeavesAll last tries (left.Owing errand) × ResumesAtLast errand.token (counted.Left door phase led)
    × (door.opened ≡ errand.token.opened)
    × ResumedBy errand.token.steps (counted.Left door phase led) × LedAtLast (counted.Left door phase led))

-- what a departure of all members answers
abbrev pub LeavesAllAtLast : ℕ → GroupHeld → GroupLeft → Type 0
LeavesAllAtLast tries old (group_left.Left door phase led) =
    (last : GroupHeld) × IsBefore old last × AllLeaveAtLast tries last door phase led
LeavesAllAtLast tries old (group_left.AlreadyArrived new phase) =
    (last : GroupHeld) × IsBefore old last × LeavesAll last tries (left.AlreadyArrived new phase)
LeavesAllAtLast tries old (group_left.Ended new shown) =
    (last : GroupHeld) × IsBefore old last × LeavesAll last tries (left.Ended new shown)

-- `n` more members register beside the first one, off whose token a door for them was split
abbrev pub OthersJoin : ℕ → Holding → ℕ → GroupRegistered → Type 0
OthersJoin tries crew n (group_registered.Joined group phase) =
    JoinsAllAtLast tries n (alone (split_once crew)) (group_joined.Joined group phase)
OthersJoin tries crew n (group_registered.Partly group parties) =
    JoinsAllAtLast tries n (alone (split_once crew)) (group_joined.Full group parties)
OthersJoin tries crew n (group_registered.PartlyEnded group shown) =
    JoinsAllAtLast tries n (alone (split_once crew)) (group_joined.Ended group shown)
OthersJoin tries crew n _ = ⊥

-- how the others registered: not at all if the first was the only one
abbrev pub OthersRegister : ℕ → Holding → ℕ → GroupHeld → ℕ → Type 0
OthersRegister tries crew zero group phase = group ≡ alone crew
OthersRegister tries crew (suc n) group phase = OthersJoin tries crew (suc n) (group_registered.Joined group phase)

-- What each answer says: first one member registers at the tier, and then the others beside it.
abbrev pub RegistersAllAtLast : ℕ → Named → ℕ → ℕ → GroupRegistered → Type 0
RegistersAllAtLast tries n tier k (group_registered.Joined group phase) =
    (crew : Holding) × RegistersAtLast n tier 1 (admitted.Joined crew crew.view.phase) × OthersRegister tries crew (k - 1) group phase
    × AreRegistered tier k group phase × (group.tree ≡ n)
RegistersAllAtLast tries n tier k (group_registered.Partly group parties) =
    (crew : Holding) × RegistersAtLast n tier 1 (admitted.Joined crew crew.view.phase)
    × OthersJoin tries crew (k - 1) (group_registered.Partly group parties) × (1 < k) × (length group.tokens ≡ 1)
RegistersAllAtLast tries n tier k (group_registered.PartlyEnded group shown) =
    (crew : Holding) × RegistersAtLast n tier 1 (admitted.Joined crew crew.view.phase)
    × OthersJoin tries crew (k - 1) (group_registered.PartlyEnded group shown) × (1 < k) × (length group.tokens ≡ 1)
RegistersAllAtLast tries n tier k (group_registered.Full door parties) = RegistersAtLast n tier 1 (admitted.Full door parties)
RegistersAllAtLast tries n tier k (group_registered.Ended door shown) = RegistersAtLast n tier 1 (admitted.Ended door shown)

-- the tokens that an answer returns
abbrev pub tokens_joined : GroupJoined → GroupHeld
tokens_joined (group_joined.Joined new phase) = new
tokens_joined (group_joined.Full new parties) = new
tokens_joined (group_joined.AlreadyArrived new phase) = new
tokens_joined (group_joined.Ended new shown) = new

-- the tree of the token or the tokens that an answer returns
abbrev pub tree_left : GroupLeft → Named
tree_left (group_left.Left door phase led) = door.tree
tree_left (group_left.AlreadyArrived new phase) = new.tree
tree_left (group_left.Ended new shown) = new.tree

abbrev pub tree_registered : GroupRegistered → Named
tree_registered (group_registered.Joined group phase) = group.tree
tree_registered (group_registered.Partly group parties) = group.tree
tree_registered (group_registered.PartlyEnded group shown) = group.tree
tree_registered (group_registered.Full door parties) = door.tree
tree_registered (group_registered.Ended door shown) = door.tree

-- the answer says that the tree has ended
abbrev pub HasEndedJoining : GroupJoined → Type 0
HasEndedJoining (group_joined.Ended new shown) = Unit {0}
HasEndedJoining _ = ⊥

abbrev pub HasEndedLeaving : GroupLeft → Type 0
HasEndedLeaving (group_left.Ended new shown) = Unit {0}
HasEndedLeaving _ = ⊥

abbrev pub HasEndedRegistering : GroupRegistered → Type 0
HasEndedRegistering (group_registered.Ended door shown) = Unit {0}
HasEndedRegistering _ = ⊥
