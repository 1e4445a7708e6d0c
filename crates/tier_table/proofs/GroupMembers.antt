-- Registrations and departures of groups that are repeated.
use Rattle.std.proofs.Common.{◌≡◌, ℕ, zero, suc, ◌-◌, ◌<◌, refl, sym, ◌∙◌, subst, arith, inl, inr, ⊎_elim}
use Rattle.tier_calls.specs.Holding.{Named, Holding, split_once}
use Rattle.tier_calls.specs.Joins.{IsJoined}
use Rattle.tier_calls.specs.Groups.{GroupHeld}
use Rattle.tier_calls.specs.Splits.{alone}
use Rattle.tier_calls.specs.ArrivesWith.{OnlyTried}
use Rattle.tier_calls.proofs.Registering.{IsFirst, first_joined, first_looked, first_still, all_registered}
use Rattle.tier_table.specs.declared.waiting.RegisteredAtLast.TheVariants as admitted
use Rattle.tier_table.specs.declared.group_members.GroupJoined.{GroupJoined}
use Rattle.tier_table.specs.declared.group_members.GroupJoined.TheVariants as group_joined
use Rattle.tier_table.specs.declared.group_members.GroupLeft.{GroupLeft}
use Rattle.tier_table.specs.declared.group_members.GroupLeft.TheVariants as group_left
use Rattle.tier_table.specs.declared.group_members.GroupRegistered.{GroupRegistered}
use Rattle.tier_table.specs.declared.group_members.GroupRegistered.TheVariants as group_registered
use Rattle.tier_table.specs.AtLast.{RegistersAtLast}
use Rattle.tier_table.specs.GroupsAtLast.{HaveLookedOn, IsBefore}
use Rattle.tier_table.specs.GroupMembersAtLast.{JoinsAllAtLast, LeavesAllAtLast, OthersJoin, OthersRegister, RegistersAllAtLast, tokens_joined, tree_left, tree_registered}
use Rattle.tier_table.proofs.GroupsLasting.{before_then, before_long, before_tree, kept_looked}

pub tried_looked : {old new : GroupHeld} (tries : ℕ) → OnlyTried tries old new → HaveLookedOn old new
tried_looked tries o = kept_looked tries o.first o.kept

-- what is answered to a group that was looked at before
pub joins_before : (tries n : ℕ) (a b : GroupHeld) (r : GroupJoined) → 0 < b.view.size → IsBefore a b → JoinsAllAtLast tries n b r
    → JoinsAllAtLast tries n a r
joins_before tries n a b (group_joined.Joined new phase) some' p reported = (reported.0, before_then some' p reported.1, reported.2)
joins_before tries n a b (group_joined.Full new parties) some' p reported = (reported.0, before_then some' p reported.1, reported.2)
joins_before tries n a b (group_joined.AlreadyArrived new phase) some' p reported = (reported.0, before_then some' p reported.1, reported.2)
joins_before tries n a b (group_joined.Ended new shown) some' p reported = (reported.0, before_then some' p reported.1, reported.2)

pub leaves_before : (tries : ℕ) (a b : GroupHeld) (r : GroupLeft) → 0 < b.view.size → IsBefore a b → LeavesAllAtLast tries b r
    → LeavesAllAtLast tries a r
leaves_before tries a b (group_left.Left door phase led) some' p reported = (reported.0, before_then some' p reported.1, reported.2)
leaves_before tries a b (group_left.AlreadyArrived new phase) some' p reported = (reported.0, before_then some' p reported.1, reported.2)
leaves_before tries a b (group_left.Ended new shown) some' p reported = (reported.0, before_then some' p reported.1, reported.2)

-- the first token after tries that counted nothing
pub first_before : (tier phase : ℕ) (old last : GroupHeld) → IsFirst tier phase old → IsBefore old last → IsFirst tier phase last
first_before tier phase old last f (inl e) = subst (IsFirst tier phase) (sym e) f
first_before tier phase old last f (inr l) = first_looked {old = old} {new = last} f l.view (before_long {a = old} {b = last} (inr l))

-- a member that has just joined has not arrived
pub not_arrived : {tier : ℕ} (tries n phase : ℕ) (group : GroupHeld) (crew : Holding) → IsJoined tier 1 crew.view
    → JoinsAllAtLast tries n (alone (split_once crew)) (group_joined.AlreadyArrived group phase) → ⊥
not_arrived {tier} tries n phase group crew j reported =
    let f = first_before tier crew.view.phase (alone (split_once crew)) reported.0 (first_joined crew j) reported.1 in
    let a = reported.2.2 in
    ⊎_elim
    (λ (z : (group.view.phase ≡ (reported.0).view.phase) × (group.view.arrived ≡ (reported.0).view.arrived)). let x = z.1 in
    let y = f.none in
    let w = a in
    absurd (omega arith))
    (λ z. let x = z.0 in let y = f.none in let w = f.members in absurd (omega arith))
    reported.2.0.looked.phase

registers : (tries : ℕ) (crew : Holding) (group : GroupHeld) (phase n : ℕ) → 0 < n
    → OthersJoin tries crew n (group_registered.Joined group phase) → OthersRegister tries crew n group phase
registers tries crew group phase zero some' a = absurd (omega arith)
registers tries crew group phase (suc n) some' a = a

pub others_at_last : (tier k tries at : ℕ) (n : Named) (crew : Holding) → 1 < k → RegistersAtLast n tier 1 (admitted.Joined crew at)
    → (r : GroupRegistered) → OthersJoin tries crew (k - 1) r → RegistersAllAtLast tries n tier k r
others_at_last tier k tries at n crew more f (group_registered.Joined group phase) a =
    let g = first_before tier crew.view.phase (alone (split_once crew)) a.0 (first_joined crew f.1) a.1 in (
      crew,
      (f.0, f.1, f.2, refl),
      registers tries crew group phase (k - 1) (omega arith) a,
      all_registered {n = k} phase more g a.2.1 a.2.2 a.2.3,
      a.2.2.tree ∙ (a.2.1.tree ∙ (before_tree {a = alone (split_once crew)} {b = a.0} a.1 ∙ f.0)),
    )
others_at_last tier k tries at n crew more f (group_registered.Partly group parties) a =
    let g = first_before tier crew.view.phase (alone (split_once crew)) a.0 (first_joined crew f.1) a.1 in
    (crew, (f.0, f.1, f.2, refl), a, more, (first_still g a.2.2.first a.2.2.kept).count)
others_at_last tier k tries at n crew more f (group_registered.PartlyEnded group shown) a =
    let g = first_before tier crew.view.phase (alone (split_once crew)) a.0 (first_joined crew f.1) a.1 in
    (crew, (f.0, f.1, f.2, refl), a, more, (first_still g a.2.1 a.2.2.kept).count)
others_at_last tier k tries at n crew more f (group_registered.Full door parties) a = absurd a
others_at_last tier k tries at n crew more f (group_registered.Ended door shown) a = absurd a

-- an answer returns tokens of the same tree
pub joins_tree : (tries n : ℕ) (a : GroupHeld) (r : GroupJoined) → JoinsAllAtLast tries n a r → (tokens_joined r).tree ≡ a.tree
joins_tree tries n a (group_joined.Joined new phase) reported =
    reported.2.2.tree ∙ (reported.2.1.tree ∙ before_tree {a = a} {b = reported.0} reported.1)
joins_tree tries n a (group_joined.Full new parties) reported =
    reported.2.2.kept.tree ∙ (reported.2.2.first.tree ∙ before_tree {a = a} {b = reported.0} reported.1)
joins_tree tries n a (group_joined.AlreadyArrived new phase) reported = reported.2.0.tree ∙ before_tree {a = a} {b = reported.0} reported.1
joins_tree tries n a (group_joined.Ended new shown) reported =
    reported.2.2.kept.tree ∙ (reported.2.1.tree ∙ before_tree {a = a} {b = reported.0} reported.1)

pub leaves_tree : (tries : ℕ) (a : GroupHeld) (r : GroupLeft) → LeavesAllAtLast tries a r → tree_left r ≡ a.tree
leaves_tree tries a (group_left.Left door phase led) reported =
    ⊎_elim (λ z. z.0.2.1.tree) (λ z. z.2.0 ∙ z.1.1.1.tree) reported.2 ∙ before_tree {a = a} {b = reported.0} reported.1
leaves_tree tries a (group_left.AlreadyArrived new phase) reported = reported.2.0 ∙ before_tree {a = a} {b = reported.0} reported.1
leaves_tree tries a (group_left.Ended new shown) reported = reported.2.0 ∙ before_tree {a = a} {b = reported.0} reported.1

pub registers_tree : (tries tier k : ℕ) (n : Named) (r : GroupRegistered) → RegistersAllAtLast tries n tier k r → tree_registered r ≡ n
registers_tree tries tier k n (group_registered.Joined group phase) reported = reported.4
registers_tree tries tier k n (group_registered.Partly group parties) reported =
    joins_tree tries (k - 1) (alone (split_once reported.0)) (group_joined.Full group parties) reported.2 ∙ reported.1.0
registers_tree tries tier k n (group_registered.PartlyEnded group shown) reported =
    joins_tree tries (k - 1) (alone (split_once reported.0)) (group_joined.Ended group shown) reported.2 ∙ reported.1.0
registers_tree tries tier k n (group_registered.Full door parties) reported = reported.0
registers_tree tries tier k n (group_registered.Ended door shown) reported = reported.0
