-- Groups that register at the leaves of a tree, one for each leaf (not part of Java's API).
use Rattle.std.specs.Prelude.{◌≡◌, ◌≢◌, ℕ, zero, suc, ◌<◌, ◌≤◌, ◌⊎◌, List, [], ◌∷◌, length}
use Rattle.std.specs.List.{AllByRecursion}
use Rattle.advance_rule.specs.Stored.{Stored}
use Rattle.advance_rule.specs.declared.EndPlan.{EndPlan}
use Rattle.tier_shape.specs.Leaves.{leaves_of}
use Rattle.tier_calls.specs.Holding.{Named, Holding}
use Rattle.tier_calls.specs.Groups.{GroupHeld}
use Rattle.tier_calls.specs.RegistersAll.{AreRegistered}
use Rattle.tier_calls.specs.ArrivesWith.{OnlySplit}
use Rattle.tier_table.specs.Ruled.{Ruled, IsNew}
use Rattle.tier_table.specs.GroupMembersAtLast.{RegistersAllAtLast}
use Rattle.tier_table.specs.declared.group_members.GroupRegistered.{GroupRegistered}
use Rattle.tier_table.specs.declared.group_members.GroupRegistered.TheVariants as registered
use Rattle.tier_table.specs.declared.beginning.Unregistered.{Unregistered}
use Rattle.tier_table.specs.declared.beginning.Unregistered.TheVariants.{Memory, Full, Stopped}

-- a group of this tree with so many members, who have registered at this tier and are unarrived in this phase
pub record IsGroupAt (n : Named) (phase tier count : ℕ) (group : GroupHeld) : Type 0 where
  pub own : group.tree ≡ n
  pub registered : AreRegistered tier count group phase

-- For each leaf with a count above 0 there is one group of so many members, in the order of the leaves, and there is no other group.
abbrev pub AreAtLeaves : Named → ℕ → List ℕ → List ℕ → List GroupHeld → Type 0
AreAtLeaves n phase leaves [] groups = groups ≡ []
AreAtLeaves n phase [] (count ∷ counts) groups = groups ≡ []
AreAtLeaves n phase (leaf ∷ leaves) (zero ∷ counts) groups = AreAtLeaves n phase leaves counts groups
AreAtLeaves n phase (leaf ∷ leaves) (suc more ∷ counts) [] = ⊥
AreAtLeaves n phase (leaf ∷ leaves) (suc more ∷ counts) (group ∷ groups) =
    IsGroupAt n phase leaf (suc more) group × AreAtLeaves n phase leaves counts groups

-- no leaf is to have more members than a tier has room for
abbrev pub HaveRoom : List ℕ → Type 0
HaveRoom counts = AllByRecursion (λ count. count ≤ 65535) counts

-- the first leaf that is to have more
abbrev pub IsFirstFull : List ℕ → List ℕ → ℕ → ℕ → Type 0
IsFirstFull (leaf ∷ leaves) (count ∷ counts) tier members =
    ((65535 < count) × (tier ≡ leaf) × (members ≡ count)) ⊎ ((count ≤ 65535) × IsFirstFull leaves counts tier members)
IsFirstFull leaves counts tier members = ⊥

-- the answer of a registration that is not one in this phase
abbrev pub IsNotIn : ℕ → GroupRegistered → Type 0
IsNotIn phase (registered.Joined group at) = at ≢ phase
IsNotIn phase _ = Unit {0}

-- The members of the leaf `tier` have not registered in this phase, as the answer says. The leaves with members before it have these
-- groups.
abbrev pub StopsAt : ℕ → Named → ℕ → List ℕ → List ℕ → List GroupHeld → ℕ → GroupRegistered → Type 0
StopsAt tries n phase (leaf ∷ leaves) (zero ∷ counts) groups tier answer = StopsAt tries n phase leaves counts groups tier answer
StopsAt tries n phase (leaf ∷ leaves) (suc more ∷ counts) [] tier answer =
    (tier ≡ leaf) × RegistersAllAtLast tries n leaf (suc more) answer × IsNotIn phase answer
StopsAt tries n phase (leaf ∷ leaves) (suc more ∷ counts) (group ∷ groups) tier answer =
    IsGroupAt n phase leaf (suc more) group × StopsAt tries n phase leaves counts groups tier answer
StopsAt tries n phase leaves counts groups tier answer = ⊥

-- why some members have not registered
abbrev pub RegistersNot : ℕ → Named → ℕ → List ℕ → List ℕ → Unregistered → Type 0
RegistersNot tries n phase leaves counts (Memory fault) = HaveRoom counts
RegistersNot tries n phase leaves counts (Full tier members) = IsFirstFull leaves counts tier members
RegistersNot tries n phase leaves counts (Stopped groups tier answer) =
    HaveRoom counts × StopsAt tries n phase leaves counts groups.items tier answer

-- how many leaves were asked until then
abbrev pub asked : Unregistered → ℕ
asked (Memory fault) = 0
asked (Full tier members) = 0
asked (Stopped groups tier answer) = suc (length groups.items)

-- A new tree, and groups at its leaves in its first phase. Off its first token, which still has no members, one token was split for each
-- group.
pub record BeginsWith {F : Type 0} (shape : List ℕ) (phase : ℕ) (rule : Stored F EndPlan) (counts : List ℕ) (tree : Ruled F)
    (door : Holding) (groups : List GroupHeld) : Type 0 where
  pub first : Holding
  pub new : IsNew shape phase rule tree first
  pub split : OnlySplit first door
  pub opened : door.opened ≡ length groups
  pub capacity : HaveRoom counts
  pub members : AreAtLeaves tree.tree phase (leaves_of shape) counts groups

-- Why a tree has not begun so: memory ran out, a leaf is to have more members than it has room for, or a leaf of a tree that was given the
-- same has stopped.
abbrev pub BeginsNot : ℕ → List ℕ → ℕ → EndPlan → List ℕ → Unregistered → Type 0
BeginsNot tries shape phase plan counts (Memory fault) = Unit {0}
BeginsNot tries shape phase plan counts (Full tier members) = IsFirstFull (leaves_of shape) counts tier members
BeginsNot tries shape phase plan counts (Stopped groups tier answer) =
    (n : Named) × (n.key ≡ record { shape = shape; phase = phase; plan = plan })
    × RegistersNot tries n phase (leaves_of shape) counts (Stopped groups tier answer)
