-- Several tokens register at any tier: the first alone, and the others beside it.
use Rattle.std.proofs.Common.{◌≡◌, ℕ, zero, suc, ◌-◌, ◌<◌, ⊎_elim, length, ap, sym, ◌∙◌, subst, arith, length-append, refl}
use Rattle.tier_steps.specs.declared.view.View.{View}
use Rattle.tier_steps.specs.View.{new_view}
use Rattle.tier_steps.specs.declared.kind.Kind.TheVariants.{Join}
use Rattle.tier_steps.specs.Word.{next_phase_of}
use Rattle.tier_calls.specs.Holding.{Holding, split_once}
use Rattle.tier_calls.specs.Groups.{GroupHeld}
use Rattle.tier_calls.specs.Arrives.{IsLooked}
use Rattle.tier_calls.specs.ArrivesAll.{Did, Looks, KeepsAll}
use Rattle.tier_calls.specs.ArrivesWith.{FirstLook}
use Rattle.tier_calls.specs.Joins.{IsJoined}
use Rattle.tier_calls.specs.JoinsAll.{HasJoined, JoinsAll}
use Rattle.tier_calls.specs.Splits.{alone}
use Rattle.tier_calls.specs.RegistersAll.{stopped, RegistersFirst, OthersJoin, AreRegistered, OthersCame, RegistersAll}
use Rattle.tier_calls.specs.declared.joining.Registered.TheVariants as first
use Rattle.tier_calls.specs.declared.registering_all.Halt.{Halt}
use Rattle.tier_calls.specs.declared.registering_all.Halt.TheVariants as halt
use Rattle.tier_calls.specs.declared.registering_all.RegisteredAll.{RegisteredAll}
use Rattle.tier_calls.specs.declared.registering_all.RegisteredAll.TheVariants as answer
use Rattle.tier_calls.proofs.Arrivals.{stepped_long}
use Rattle.tier_calls.proofs.NewTokens.{are_many}
use Rattle.tier_calls.proofs.ExchangeTries.{each_many, kept_many}

-- a member that has not arrived stays in its phase
current_still : (old new : View) → IsLooked old new → old.size ≡ 1 → old.arrived ≡ 0 → (new.phase ≡ old.phase) × (new.arrived ≡ 0)
current_still old new l one none = ⊎_elim
    (λ (z : (new.phase ≡ old.phase) × (new.arrived ≡ old.arrived)). (z.0, z.1 ∙ none))
    (λ (z : (old.arrived ≡ old.size) × (new.phase ≡ next_phase_of old.phase) × (new.arrived ≡ 0)). absurd (let a = z.0 in omega arith))
    l.phase

-- a group of one member that has registered in this phase and has not arrived
pub record IsFirst (tier phase : ℕ) (group : GroupHeld) : Type 0 where
  pub count : length group.tokens ≡ 1
  pub place : group.view.tier ≡ tier
  pub members : group.view.size ≡ 1
  pub none : group.view.arrived ≡ 0
  pub current : group.view.phase ≡ phase

pub first_joined : {tier : ℕ} (crew : Holding) → IsJoined tier 1 crew.view → IsFirst tier crew.view.phase (alone (split_once crew))
first_joined crew j = record { count = refl; place = j.place; members = j.members; none = j.none_arrived; current = refl }

-- the first token after some looks
pub first_looked : {tier phase : ℕ} {old new : GroupHeld} → IsFirst tier phase old → IsLooked old.view new.view
    → length new.tokens ≡ length old.tokens → IsFirst tier phase new
first_looked {tier} {phase} {old} {new} f l long =
    let s = current_still old.view new.view l f.members f.none in
    record { count = long ∙ f.count; place = l.tier ∙ f.place; members = l.size ∙ f.members; none = s.1; current = s.0 ∙ f.current }

pub first_still : {tier phase tries : ℕ} {old mid group : GroupHeld} → IsFirst tier phase old → FirstLook old mid → KeepsAll tries mid group
    → IsFirst tier phase group
first_still {tier} {phase} {tries} {old} {mid} {group} g f k =
    let m : IsFirst tier phase mid = first_looked {new = mid} g f.looked (each_many (Did Looks 0) old.tokens mid.tokens f.tokens) in
    record {
      count = kept_many k ∙ m.count;
      place = k.view.same.tier ∙ m.place;
      members = k.view.same.size ∙ m.members;
      none = k.view.same.arrived ∙ m.none;
      current = k.view.same.phase ∙ m.current;
    }

pub all_registered : {tier at n tries : ℕ} {old group mid : GroupHeld} (phase : ℕ) → 1 < n → IsFirst tier at old → FirstLook old mid
    → HasJoined tries (n - 1) mid group → phase ≡ group.view.phase → AreRegistered tier n group phase
all_registered {tier} {at} {n} {tries} {old} {group} {mid} phase more g f h is =
    let s = first_still g f h.kept in
    let news = stepped_long (Join h.mid.view.tier 0 1) 1 h.mid.view.tier (new_view 0) h.word h.pool.tokens in
    let long = ap length h.tokens ∙ length-append _ h.mid.tokens in
    let many = are_many h.fresh in
    let one = s.count in
    record {
      count = (let a : length group.tokens ≡ n = omega arith in a);
      joined =
          record {
            place = ap (λ (v : View). v.tier) h.view ∙ s.place;
            members = ap (λ (v : View). v.size) h.view ∙ s.members;
            none_arrived = ap (λ (v : View). v.arrived) h.view ∙ s.none;
            unled = ap (λ (v : View). v.led) h.view ∙ h.eager.unled;
          };
      current = is;
    }

came : (crew : Holding) (tries : ℕ) (group : GroupHeld) (phase : ℕ) (n : ℕ) → 0 < n → OthersJoin crew n tries (answer.Joined group phase)
    → OthersCame crew n tries group phase
came crew tries group phase zero some' a = absurd (omega arith)
came crew tries group phase (suc n) some' a = a

left : {tier : ℕ} (n tries : ℕ) (crew : Holding) (group : GroupHeld) (why : Halt) → IsJoined tier 1 crew.view
    → JoinsAll tries n (alone (split_once crew)) (stopped group why) → IsFirst tier crew.view.phase group
left {tier} n tries crew group (halt.Full count) j a = first_still (first_joined crew j) a.2.first a.2.kept
left {tier} n tries crew group (halt.Ended shown) j a = first_still (first_joined crew j) a.1 a.2.kept
left {tier} n tries crew group halt.Busy j a = first_still (first_joined crew j) a.first a.kept

pub others_all : {tier n tries at : ℕ} {h crew : Holding} → 1 < n → RegistersFirst h tier tries (first.Joined crew at) → (r : RegisteredAll)
    → OthersJoin crew (n - 1) tries r → RegistersAll h tier n tries r
others_all {tier} {n} {tries} {at} {h} {crew} more f (answer.Joined group phase) a =
    let j = f.answer.1 in
    let all = all_registered {n = n} phase more (first_joined crew j) a.1 a.2 a.3 in
    let s = first_still (first_joined crew j) a.1 a.2.kept in
    let same : at ≡ phase = f.answer.3 ∙ (sym (ap (λ (v : View). v.phase) a.2.view ∙ s.current) ∙ sym a.3) in (
      crew,
      subst (λ (p : ℕ). RegistersFirst h tier tries (first.Joined crew p)) same f,
      came crew tries group phase (n - 1) (omega arith) a,
      all,
    )
others_all {tier} {n} {tries} {at} {h} {crew} more f (answer.Partly group why) a =
    let s = left (n - 1) tries crew group why f.answer.1 a in (crew, at, f, a, more, s.count, s.place, s.none)
others_all {tier} {n} {tries} {at} {h} {crew} more f (answer.Held door phase cause) a = absurd a
others_all {tier} {n} {tries} {at} {h} {crew} more f (answer.Full door count) a = absurd a
others_all {tier} {n} {tries} {at} {h} {crew} more f (answer.Ended door shown) a = absurd a
others_all {tier} {n} {tries} {at} {h} {crew} more f (answer.Busy door) a = absurd a
others_all {tier} {n} {tries} {at} {h} {crew} more f (answer.Owing opening) a = absurd a
