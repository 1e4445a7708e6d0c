-- Groups at the leaves of a tree, made one after another.
use Rattle.std.proofs.Common.{◌≡◌, ℕ, zero, suc, ◌<◌, ◌≤◌, List, [], ◌∷◌, ◌++◌, length, All, ◌⊎◌, inl, inr, refl, sym, subst, ap, append_assoc, append-nil, get_or, arith}
use Rattle.std.proofs.lemmas.List.{get_or_default}
use Rattle.std.proofs.lemmas.List.Elements.{All-nil, All-cons}
use Rattle.tier_shape.specs.Leaves.{leaves_of}
use Rattle.tier_shape.proofs.Childless.{leaves_right}
use Rattle.tier_calls.specs.Holding.{Named, Holding, split_once}
use Rattle.tier_calls.specs.Groups.{GroupHeld}
use Rattle.tier_calls.specs.ArrivesWith.{OnlySplit}
use Rattle.tier_table.specs.declared.group_members.GroupRegistered.{GroupRegistered}
use Rattle.tier_table.specs.declared.group_members.GroupRegistered.TheVariants as registered
use Rattle.tier_table.specs.GroupMembersAtLast.{RegistersAllAtLast, tree_registered}
use Rattle.tier_table.proofs.GroupMembers.{registers_tree}
use Rattle.advance_rule.specs.declared.EndPlan.{EndPlan}
use Rattle.tier_table.specs.declared.beginning.Unregistered.{Unregistered}
use Rattle.tier_table.specs.declared.beginning.Unregistered.TheVariants.{Memory, Full, Stopped}
use Rattle.tier_table.specs.Beginning.{IsGroupAt, AreAtLeaves, BeginsNot, HaveRoom, IsFirstFull, IsNotIn, RegistersNot, StopsAt}

pub once : {old new : Holding} → new ≡ split_once old → OnlySplit old new
once {old} e = subst (OnlySplit old) (sym e) (record { tree = refl; view = refl; steps = refl; tried = refl })

-- what is said of leaves, their counts and their groups, one leaf after another
pub record IsByLeaf (n : Named) (phase : ℕ) (P : List ℕ → List ℕ → List GroupHeld → Type 0) : Type 0 where
  pub none : (leaf : ℕ) (others more : List ℕ) (behind : List GroupHeld) → P others more behind → P (leaf ∷ others) (zero ∷ more) behind
  pub one : (leaf k : ℕ) (others more : List ℕ) (group : GroupHeld) (behind : List GroupHeld) → IsGroupAt n phase leaf (suc k) group
      → P others more behind → P (leaf ∷ others) (suc k ∷ more) (group ∷ behind)

pub all_by_leaf : (n : Named) (phase : ℕ) → IsByLeaf n phase (AreAtLeaves n phase)
all_by_leaf n phase = record { none = λ leaf others more behind a. a; one = λ leaf k others more group behind h a. (h, a) }

pub stops_by_leaf : (n : Named) (phase tier : ℕ) (answer : GroupRegistered)
    → IsByLeaf n phase (λ places rest groups. StopsAt 16 n phase places rest groups tier answer)
stops_by_leaf n phase tier answer = record { none = λ leaf others more behind a. a; one = λ leaf k others more group behind h a. (h, a) }

-- what is said of the leaves that are left is said of all, once the groups so far are put before theirs
abbrev pub Completes : (List ℕ → List ℕ → List GroupHeld → Type 0) → List ℕ → List ℕ → List ℕ → List ℕ → List GroupHeld → Type 0
Completes P leaves counts places rest groups = (behind : List GroupHeld) → P places rest behind → P leaves counts (groups ++ behind)

pub with_one : {P : List ℕ → List ℕ → List GroupHeld → Type 0} (n : Named) (phase : ℕ) (leaves counts places rest others more : List ℕ)
    (leaf count : ℕ) (groups new : List GroupHeld) (group : GroupHeld)
    → IsByLeaf n phase P → places ≡ leaf ∷ others → rest ≡ count ∷ more → 0 < count → IsGroupAt n phase leaf count group
    → new ≡ groups ++ (group ∷ []) → Completes P leaves counts places rest groups → Completes P leaves counts others more new
with_one {P} n phase leaves counts places rest others more leaf zero groups new group by p r some' here added before behind a =
    absurd (omega arith)
with_one {P} n phase leaves counts places rest others more leaf (suc k) groups new group by p r some' here added before behind a =
    let one : P (leaf ∷ others) (suc k ∷ more) (group ∷ behind) = by.one leaf k others more group behind here a in
    let two : P places (suc k ∷ more) (group ∷ behind) = subst (λ z. P z (suc k ∷ more) (group ∷ behind)) (sym p) one in
    let three : P places rest (group ∷ behind) = subst (λ z. P places z (group ∷ behind)) (sym r) two in
    let all : P leaves counts ((groups ++ (group ∷ [])) ++ behind) =
    subst (P leaves counts) (sym (append_assoc groups (group ∷ []) behind)) (before (group ∷ behind) three) in
    subst (λ z. P leaves counts (z ++ behind)) (sym added) all

pub with_none : {P : List ℕ → List ℕ → List GroupHeld → Type 0} (n : Named) (phase : ℕ) (leaves counts places rest others more : List ℕ)
    (leaf count : ℕ) (groups : List GroupHeld)
    → IsByLeaf n phase P → places ≡ leaf ∷ others → rest ≡ count ∷ more → count ≡ 0 → Completes P leaves counts places rest groups
    → Completes P leaves counts others more groups
with_none {P} n phase leaves counts places rest others more leaf (suc k) groups by p r none before behind a = absurd (omega (arith, none))
with_none {P} n phase leaves counts places rest others more leaf zero groups by p r none before behind a =
    let two : P places (zero ∷ more) behind = subst (λ z. P z (zero ∷ more) behind) (sym p) (by.none leaf others more behind a) in
    before behind (subst (λ z. P places z behind) (sym r) two)

-- no group is left where no count is left, or no leaf
pub at_end : (n : Named) (phase : ℕ) (places rest : List ℕ) → (length rest ≡ 0) ⊎ (length places ≡ 0) → AreAtLeaves n phase places rest []
at_end n phase places [] end = refl
at_end n phase [] (count ∷ more) end = refl
at_end n phase (leaf ∷ others) (count ∷ more) (inl e) = absurd (omega (arith, e))
at_end n phase (leaf ∷ others) (count ∷ more) (inr e) = absurd (omega (arith, e))

pub completed : (n : Named) (phase : ℕ) (leaves counts places rest : List ℕ) (groups : List GroupHeld)
    → (length rest ≡ 0) ⊎ (length places ≡ 0) → Completes (AreAtLeaves n phase) leaves counts places rest groups
    → AreAtLeaves n phase leaves counts groups
completed n phase leaves counts places rest groups end before =
    subst (AreAtLeaves n phase leaves counts) (append-nil groups) (before [] (at_end n phase places rest end))

-- a leaf whose answer stops the registrations
stops_here : (n : Named) (phase leaf count : ℕ) (others more : List ℕ) (answer : GroupRegistered) → 0 < count
    → RegistersAllAtLast 16 n leaf count answer → IsNotIn phase answer → StopsAt 16 n phase (leaf ∷ others) (count ∷ more) [] leaf answer
stops_here n phase leaf zero others more answer some' reported not = absurd (omega arith)
stops_here n phase leaf (suc k) others more answer some' reported not = (refl, reported, not)

pub stopped_at : (n : Named) (phase leaf count : ℕ) (leaves counts places rest others more : List ℕ) (groups : List GroupHeld)
    (answer : GroupRegistered)
    → places ≡ leaf ∷ others → rest ≡ count ∷ more → 0 < count → RegistersAllAtLast 16 n leaf count answer → IsNotIn phase answer
    → Completes (λ p r g. StopsAt 16 n phase p r g leaf answer) leaves counts places rest groups
    → StopsAt 16 n phase leaves counts groups leaf answer
stopped_at n phase leaf count leaves counts places rest others more groups answer p r some' reported not before =
    let one = stops_here n phase leaf count others more answer some' reported not in
    let two : StopsAt 16 n phase places (count ∷ more) [] leaf answer =
    subst (λ z. StopsAt 16 n phase z (count ∷ more) [] leaf answer) (sym p) one in
    let three : StopsAt 16 n phase places rest [] leaf answer = subst (λ z. StopsAt 16 n phase places z [] leaf answer) (sym r) two in
    subst (λ z. StopsAt 16 n phase leaves counts z leaf answer) (append-nil groups) (before [] three)

-- an answer that is no group is not one in this phase
pub not_in : (phase : ℕ) (answer : GroupRegistered) → ((group : GroupHeld) (at : ℕ) → answer ≡ registered.Joined group at → ⊥)
    → IsNotIn phase answer
not_in phase (registered.Joined group at) not = absurd (not group at refl)
not_in phase (registered.Partly group count) not = tt
not_in phase (registered.PartlyEnded group shown) not = tt
not_in phase (registered.Full door count) not = tt
not_in phase (registered.Ended door shown) not = tt

-- the leaves so far have room
pub record HaveRoomSoFar (leaves counts places rest : List ℕ) : Type 0 where
  pub full : (tier members : ℕ) → IsFirstFull places rest tier members → IsFirstFull leaves counts tier members
  pub capacity : HaveRoom rest → HaveRoom counts
  pub long : length rest ≤ length places

pub room_after : (leaves counts places rest others more : List ℕ) (leaf count : ℕ) → places ≡ leaf ∷ others → rest ≡ count ∷ more
    → count ≤ 65535 → HaveRoomSoFar leaves counts places rest → HaveRoomSoFar leaves counts others more
room_after leaves counts places rest others more leaf count p r few so = record {
  full =
      λ tier members f. so.full tier members
      (subst (λ z. IsFirstFull z rest tier members) (sym p) (subst (λ z. IsFirstFull (leaf ∷ others) z tier members) (sym r) (inr (few, f))));
  capacity = λ capacity. so.capacity (subst HaveRoom (sym r) (few, capacity));
  long = let l = so.long in let a = ap length p in let b = ap length r in omega (arith, l, a, b);
}

pub full_here : (leaves counts places rest others more : List ℕ) (leaf count : ℕ) → places ≡ leaf ∷ others → rest ≡ count ∷ more
    → 65535 < count → HaveRoomSoFar leaves counts places rest → IsFirstFull leaves counts leaf count
full_here leaves counts places rest others more leaf count p r many so =
    so.full leaf count
    (subst (λ z. IsFirstFull z rest leaf count) (sym p) (subst (λ z. IsFirstFull (leaf ∷ others) z leaf count) (sym r) (inl (many, refl, refl))))

pub room_at_end : (leaves counts places rest : List ℕ) → (length rest ≡ 0) ⊎ (length places ≡ 0) → HaveRoomSoFar leaves counts places rest
    → HaveRoom counts
room_at_end leaves counts places [] end so = so.capacity tt
room_at_end leaves counts places (count ∷ more) (inl e) so = absurd (omega (arith, e))
room_at_end leaves counts places (count ∷ more) (inr e) so = absurd (let l = so.long in omega (arith, e, l))

longer : (l : List GroupHeld) (group : GroupHeld) → length (l ++ (group ∷ [])) ≡ suc (length l)
longer [] group = refl
longer (x ∷ xs) group = let t = longer xs group in omega (arith, t)

pub one_longer : (groups new : List GroupHeld) (group : GroupHeld) → new ≡ groups ++ (group ∷ []) → length new ≡ suc (length groups)
one_longer groups new group e = subst (λ z. length z ≡ suc (length groups)) (sym e) (longer groups group)

-- the other elements of a list
pub all_after : (P : ℕ → Type 0) (x : ℕ) (xs ys : List ℕ) → ys ≡ x ∷ xs → All P ys → All P xs
all_after P x xs ys e all = let whole = subst (All P) e all in λ k d h. whole (suc k) d (omega arith)

pub first_after : (P : ℕ → Type 0) (x : ℕ) (xs ys : List ℕ) → ys ≡ x ∷ xs → All P ys → P x
first_after P x xs ys e all = let whole = subst (All P) e all in whole 0 x (omega arith)

-- the leaves of a tree are tiers
pub leaves_are_tiers : (shape leaves : List ℕ) → leaves ≡ leaves_of shape → All (λ leaf. leaf < length shape) leaves
leaves_are_tiers shape leaves e =
    subst (All (λ leaf. leaf < length shape)) (sym e)
    (λ k d h. let at : ℕ = get_or (leaves_of shape) k d in
    let leaf = ((leaves_right shape).exact at).0 (k, h, get_or_default (leaves_of shape) k at d h) in
    leaf.within)

-- some groups of a tree, and no more of them than counts
pub record AreOwn (n : Named) (counts : List ℕ) (groups : List GroupHeld) : Type 0 where
  pub own : All (λ (g : GroupHeld). g.tree ≡ n) groups
  pub few : length groups ≤ length counts

none_own : (n : Named) (counts : List ℕ) → AreOwn n counts []
none_own n counts = record { own = All-nil (λ (g : GroupHeld). g.tree ≡ n); few = omega arith }

skip_own : {n : Named} {counts : List ℕ} {groups : List GroupHeld} (count : ℕ) → AreOwn n counts groups → AreOwn n (count ∷ counts) groups
skip_own count a = record { own = a.own; few = let f = a.few in omega arith }

one_own : {n : Named} {counts : List ℕ} {groups : List GroupHeld} (count : ℕ) (group : GroupHeld) → group.tree ≡ n → AreOwn n counts groups
    → AreOwn n (count ∷ counts) (group ∷ groups)
one_own {n} {counts} {groups} count group own a =
    record { own = All-cons (λ (g : GroupHeld). g.tree ≡ n) group groups own a.own; few = let f = a.few in omega arith }

-- groups at the leaves of a tree are of this tree
pub all_own : (n : Named) (phase : ℕ) (leaves counts : List ℕ) (groups : List GroupHeld) → AreAtLeaves n phase leaves counts groups
    → AreOwn n counts groups
all_own n phase leaves [] groups none = subst (AreOwn n []) (sym none) (none_own n [])
all_own n phase [] (count ∷ counts) groups none = subst (AreOwn n (count ∷ counts)) (sym none) (none_own n (count ∷ counts))
all_own n phase (leaf ∷ leaves) (zero ∷ counts) groups at = skip_own zero (all_own n phase leaves counts groups at)
all_own n phase (leaf ∷ leaves) (suc more ∷ counts) [] none = absurd none
all_own n phase (leaf ∷ leaves) (suc more ∷ counts) (group ∷ groups) at =
    one_own (suc more) group at.0.own (all_own n phase leaves counts groups at.1)

-- and so are those of leaves before one that stopped, and what it answered
pub stopped_own : (tries : ℕ) (n : Named) (phase : ℕ) (leaves counts : List ℕ) (groups : List GroupHeld) (tier : ℕ)
    (answer : GroupRegistered)
    → StopsAt tries n phase leaves counts groups tier answer → AreOwn n counts groups × (tree_registered answer ≡ n)
stopped_own tries n phase [] counts groups tier answer stop = absurd stop
stopped_own tries n phase (leaf ∷ leaves) [] groups tier answer stop = absurd stop
stopped_own tries n phase (leaf ∷ leaves) (zero ∷ counts) groups tier answer stop =
    let rest = stopped_own tries n phase leaves counts groups tier answer stop in
    (skip_own zero rest.0, rest.1)
stopped_own tries n phase (leaf ∷ leaves) (suc more ∷ counts) [] tier answer stop =
    (none_own n (suc more ∷ counts), registers_tree tries leaf (suc more) n answer stop.1)
stopped_own tries n phase (leaf ∷ leaves) (suc more ∷ counts) (group ∷ groups) tier answer stop =
    let rest = stopped_own tries n phase leaves counts groups tier answer stop.1 in (one_own (suc more) group stop.0.own rest.0, rest.1)

key_is : (n : Named) (shape : List ℕ) (phase : ℕ) (plan : EndPlan) → n.key.shape ≡ shape → n.key.phase ≡ phase → n.key.plan ≡ plan
    → n.key ≡ record { shape = shape; phase = phase; plan = plan }
key_is n shape phase plan s p e =
    subst (λ (x : List ℕ). n.key ≡ record { shape = x; phase = phase; plan = plan }) s
    (subst (λ (y : ℕ). n.key ≡ record { shape = n.key.shape; phase = y; plan = plan }) p
    (subst (λ (z : EndPlan). n.key ≡ record { shape = n.key.shape; phase = n.key.phase; plan = z }) e refl))

-- why a new tree has not begun: as its members have not registered
pub begins_not : (tries : ℕ) (n : Named) (shape : List ℕ) (phase : ℕ) (plan : EndPlan) (leaves counts : List ℕ) (fault : Unregistered)
    → leaves ≡ leaves_of shape → n.key.shape ≡ shape → n.key.phase ≡ phase → n.key.plan ≡ plan
    → RegistersNot tries n phase leaves counts fault → BeginsNot tries shape phase plan counts fault
begins_not tries n shape phase plan leaves counts (Memory fault) l s p e r = tt
begins_not tries n shape phase plan leaves counts (Full tier members) l s p e r =
    subst (λ (z : List ℕ). IsFirstFull z counts tier members) l r
begins_not tries n shape phase plan leaves counts (Stopped groups tier answer) l s p e r =
    (n, key_is n shape phase plan s p e, (r.0, subst (λ (z : List ℕ). StopsAt tries n phase z counts groups.items tier answer) l r.1))
