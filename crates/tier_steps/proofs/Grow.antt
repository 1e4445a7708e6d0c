-- A join fits: a number of unarrived parties are added at one tier.
use Rattle.std.proofs.Common.{◌≡◌, ◌≢◌, ℕ, zero, suc, ◌+◌, ◌<◌, ◌≤◌, inl, ⊎_elim, Bool, false, cond, eqb, List, length, refl, sym, ◌∙◌, ap, arith}
use Rattle.std.proofs.lemmas.Bool.{cases_eq, eq-eqb, ne_eqb}
use Rattle.tier_steps.specs.Word.{Fields, IsLegal, is_being_opened, late, joined}
use Rattle.tier_steps.specs.View.{View, Rest, OpeningStage, Seeking, Joined, parent_of, ancestor, absent, only_at, errand_parties, errand_late, is_hidden, party_share, late_share, claims_on, errand_claims, claim_share, errand_advances, advance_share}
use Rattle.tier_steps.specs.Tally.{word_at, root_phase, counted, ErrandFits, ViewFits, is_zero, Tallies}
use Rattle.tier_steps.specs.Step.{Admits, opening, added, IsDue, joined_view}
use Rattle.tier_steps.proofs.Legal.{joined_legal}
use Rattle.tier_steps.proofs.Balance.{linked}
use Rattle.tier_steps.proofs.Keeping.{StepFits}
use Rattle.tier_steps.proofs.Pass.{only_here, only_elsewhere, only_nothing, open_not_opened, resting_late}

-- a tier with an unarrived party is in the root's phase
pub admits_current : (ps : List ℕ) (ws : List Fields) (vs : List View) (t n : ℕ) → Tallies ps ws vs → t < length ws
    → Admits t n (word_at ws t) → (word_at ws t).phase ≡ root_phase ws
admits_current ps ws vs zero n tally within can = refl
admits_current ps ws vs (suc t) n tally within can =
    let waits : 0 < (word_at ws (suc t)).unarrived = can.waits in
    let some : 0 < (word_at ws (suc t)).parties =
    ⊎_elim (λ (z : (word_at ws (suc t)).parties ≡ 0). absurd (let a : suc t ≡ 0 = (can.empty z).0 in omega arith))
    (λ (h : (word_at ws (suc t)).parties ≢ 0). omega arith) (cases_eq (word_at ws (suc t)).parties 0) in
    ⊎_elim (λ e. e) (λ e. absurd (let z = e.1 in omega arith)) (tally.phases (suc t) within some)

joined_late : (root t n : ℕ) (w : Fields) → w.phase ≡ root → 0 < n → (w.parties ≡ 0 → (t ≡ 0) × (w.unarrived ≡ 1))
    → late root (joined w n) ≡ late root w + n
joined_late root t n w e h m = grind arith

joined_waits : (w : Fields) (n : ℕ) → 0 < n → 0 < w.unarrived → is_zero (joined w n).unarrived ≡ 0
joined_waits w n h k = grind arith

admitted_not_opened : (t : ℕ) (w : Fields) → 0 < w.unarrived → (w.parties ≡ 0 → (t ≡ 0) × (w.unarrived ≡ 1)) → is_being_opened w ≡ false
admitted_not_opened t w h m = ⊎_elim
    (λ (z : w.parties ≡ 0). (let a : w.unarrived ≡ 1 = (m z).1 in
    ap (λ b. cond b (eqb w.unarrived 2) false) (eq-eqb w.parties 0 z) ∙ ne_eqb w.unarrived 2 (omega arith)))
    (λ (o : w.parties ≢ 0). ap (λ b. cond b (eqb w.unarrived 2) false) (ne_eqb w.parties 0 o))
    (cases_eq w.parties 0)

-- a tier that counts something goes on to count something
counted_more : (f : Fields → ℕ) (w w' : Fields) → 0 < f w → 0 < f w' → counted f w' ≡ counted f w
counted_more f w w' h k = ap (λ b. cond b 0 1) (ne_eqb (f w') 0 (omega arith)) ∙ ap (λ b. cond b 0 1) (sym (ne_eqb (f w) 0 (omega arith)))

open_below : (t n : ℕ) (w : Fields) → Admits (suc t) n w → 0 < w.parties
open_below t n w can = ⊎_elim (λ (z : w.parties ≡ 0). absurd (let a : suc t ≡ 0 = (can.empty z).0 in omega arith))
    (λ (h : w.parties ≢ 0). omega arith) (cases_eq w.parties 0)

linked_open_parties : (ps : List ℕ) (u t n : ℕ) (w : Fields) → 0 < n → Admits t n w
    → linked ps u t (counted (λ x. x.parties) (joined w n)) ≡ linked ps u t (counted (λ x. x.parties) w)
linked_open_parties ps u zero n w h can = refl
linked_open_parties ps u (suc t) n w h can =
    ap (λ k. cond (eqb (parent_of ps (suc t)) u) k 0) (counted_more (λ x. x.parties) w (joined w n) (open_below t n w can) (omega arith))

waiting_late : (root : ℕ) (w : Fields) → w.phase ≡ root → 0 < w.parties → 0 < w.unarrived → 0 < late root w
waiting_late root w e p h = grind arith

linked_open_late : (ps : List ℕ) (u root t n : ℕ) (w : Fields) → w.phase ≡ root → 0 < n → Admits t n w
    → linked ps u t (counted (late root) (joined w n)) ≡ linked ps u t (counted (late root) w)
linked_open_late ps u root zero n w e h can = refl
linked_open_late ps u root (suc t) n w e h can =
    let a : 0 < late root w = waiting_late root w e (open_below t n w can) can.waits in
    let b = joined_late root (suc t) n w e h can.empty in
    ap (λ k. cond (eqb (parent_of ps (suc t)) u) k 0) (counted_more (late root) w (joined w n) a (omega arith))

-- what a step that adds n unarrived parties at the tier t owes
pub record Adds (ps : List ℕ) (root : ℕ) (t n : ℕ) (w : Fields) (v v' : View) : Type 0 where
  pub legal : IsLegal w
  pub phase : w.phase ≡ root
  pub some : 0 < n
  pub admits : Admits t n w
  pub before_parties : (u : ℕ) → party_share ps u v ≡ 0
  pub before_late : (u : ℕ) → late_share root ps u v ≡ 0
  pub parties : (u : ℕ) → party_share ps u v' ≡ only_at t n u
  pub unarrived : (u : ℕ) → late_share root ps u v' ≡ only_at t n u
  pub claims : (u : ℕ) → claim_share ps u v' ≡ claim_share ps u v
  pub idle : (advance_share v ≡ 0) × (advance_share v' ≡ 0)

pub add_fits : (ps : List ℕ) (root : ℕ) (ended : Bool) (t n : ℕ) (w : Fields) (v v' : View) → Adds ps root t n w v v'
    → ViewFits ps root ended v' → StepFits ps root ended t w (joined w n) v v'
add_fits ps root ended t n w v v' p ok =
    let more : late root (joined w n) ≡ late root w + n = joined_late root t n w p.phase p.some p.admits.empty in
    let fresh : is_being_opened w ≡ false = admitted_not_opened t w p.admits.waits p.admits.empty in
    let now : is_being_opened (joined w n) ≡ false = open_not_opened (joined w n) (let a = p.some in omega arith) in
    record {
      legal = joined_legal t n w p.legal p.some p.admits;
      phase = λ _. refl;
      same_end = λ _. refl;
      ended_stays = λ _ e. e;
      parties_here = λ _. let a = p.before_parties t in let b = p.parties t in let c = only_here t n in omega arith;
      parties_there = λ u k. let a = p.before_parties u in let b = p.parties u in let c = only_elsewhere t n u k in
          let d = linked_open_parties ps u t n w p.some p.admits in omega arith;
      late_here = λ _. let a = p.before_late t in let b = p.unarrived t in let c = only_here t n in omega arith;
      late_there = λ u k. let a = p.before_late u in let b = p.unarrived u in let c = only_elsewhere t n u k in
          let d = linked_open_late ps u root t n w p.phase p.some p.admits in omega arith;
      claims_here =
          let a : cond {A = ℕ} (is_being_opened (joined w n)) 1 0 ≡ 0 = ap (λ (x : Bool). cond {A = ℕ} x 1 0) now in
          let b : cond {A = ℕ} (is_being_opened w) 1 0 ≡ 0 = ap (λ (x : Bool). cond {A = ℕ} x 1 0) fresh in
          let c = p.claims t in omega arith;
      claims_there = λ u _. p.claims u;
      root_claims = λ _. now;
      keeps_up = λ _. inl p.phase;
      advances_here = λ _ _.
          let a : is_zero (joined w n).unarrived ≡ 0 = joined_waits w n p.some p.admits.waits in
          let b : is_zero w.unarrived ≡ 0 =
          ap (λ (x : Bool). cond {A = ℕ} x 1 0) (ne_eqb w.unarrived 0 (let d = p.admits.waits in omega arith)) in
          let c = p.idle.0 in let d = p.idle.1 in omega arith;
      advances_there = λ _. p.idle.1 ∙ sym p.idle.0;
      view = ok;
    }

-- a token without members counts nowhere while it rests
pub resting_parties : (ps : List ℕ) (u : ℕ) (v : View) → v.errand ≡ Rest → party_share ps u v ≡ only_at v.tier v.size u
resting_parties ps u v e =
    let a : party_share ps u v ≡ only_at v.tier v.size u + 0 =
    ap (λ x. cond (is_hidden x) 0 (only_at v.tier v.size u) + errand_parties ps x u) e in
    omega arith

pub absent_none : (root : ℕ) (v : View) → v.size ≡ 0 → absent root v ≡ 0
absent_none root v e = grind arith

pub absent_joined : (root : ℕ) (v : View) → v.arrived ≡ 0 → absent root v ≡ v.size
absent_joined root v e = grind arith

-- a token without members that rests, or opens a path and hasn't joined, counts nowhere
pub seeking_party : (ps : List ℕ) (u : ℕ) (v : View) (tier claimed size : ℕ) → v.errand ≡ opening tier claimed Seeking size → v.size ≡ 0
    → party_share ps u v ≡ 0
seeking_party ps u v tier zero size e z = resting_parties ps u v e ∙ (ap (λ k. only_at v.tier k u) z ∙ only_nothing v.tier u)
seeking_party ps u v tier (suc claimed) size e z = ap (λ x. cond (is_hidden x) 0 (only_at v.tier v.size u) + errand_parties ps x u) e

pub seeking_late : (root : ℕ) (ps : List ℕ) (u : ℕ) (v : View) (tier claimed size : ℕ) → v.errand ≡ opening tier claimed Seeking size
    → v.size ≡ 0
    → late_share root ps u v ≡ 0
seeking_late root ps u v tier zero size e z =
    resting_late root ps u v e ∙ (ap (λ k. only_at v.tier k u) (absent_none root v z) ∙ only_nothing v.tier u)
seeking_late root ps u v tier (suc claimed) size e z =
    ap (λ x. cond (is_hidden x) 0 (only_at v.tier (absent root v) u) + errand_late ps x u) e

-- afterwards it counts what was added, at that tier alone
joined_party : (ps : List ℕ) (u tier claimed size : ℕ) (w : Fields) (v : View)
    → party_share ps u (joined_view tier claimed size w v) ≡ only_at (ancestor ps tier claimed) (added claimed size) u
joined_party ps u tier zero size w v = resting_parties ps u (joined_view tier zero size w v) refl
joined_party ps u tier (suc claimed) size w v = omega arith

joined_share : (root : ℕ) (ps : List ℕ) (u tier claimed size : ℕ) (w : Fields) (v : View)
    → late_share root ps u (joined_view tier claimed size w v) ≡ only_at (ancestor ps tier claimed) (added claimed size) u
joined_share root ps u tier zero size w v =
    resting_late root ps u (joined_view tier zero size w v) refl
    ∙ ap (λ k. only_at tier k u) (absent_joined root (joined_view tier zero size w v) refl)
joined_share root ps u tier (suc claimed) size w v = omega arith

-- neither claims nor advances change
pub opening_claims : (ps : List ℕ) (u tier claimed size : ℕ) (stage : OpeningStage)
    → errand_claims ps u (opening tier claimed stage size) ≡ claims_on ps tier claimed u
opening_claims ps u tier zero size stage = refl
opening_claims ps u tier (suc claimed) size stage = refl

pub opening_idle : (tier claimed size : ℕ) (stage : OpeningStage) → errand_advances (opening tier claimed stage size) ≡ 0
opening_idle tier zero size stage = refl
opening_idle tier (suc claimed) size stage = refl

pub added_some : (claimed size : ℕ) → 0 < size → 0 < added claimed size
added_some zero size h = h
added_some (suc claimed) size h = omega arith

joined_errand : (ps : List ℕ) (root tier claimed size : ℕ) (w : Fields) (v : View) → w.phase ≡ root → tier < length ps → 0 < size
    → size ≤ 65535
    → ErrandFits ps root (joined_view tier claimed size w v) (opening tier claimed Joined size)
joined_errand ps root tier zero size w v e place some few = tt
joined_errand ps root tier (suc claimed) size w v e place some few = (
  record { claims = omega arith; place = place; some = some; few = few },
  record { phase = e; arrived = refl; place = refl; members = refl },
)

-- Join
pub join_fits : (ps : List ℕ) (ws : List Fields) (vs : List View) (v : View) (t tier claimed size : ℕ) (ended : Bool) → t < length ws
    → Tallies ps ws vs
    → IsDue ps tier claimed size t v → Admits t (added claimed size) (word_at ws t) → ViewFits ps (root_phase ws) ended v
    → StepFits ps (root_phase ws) ended t (word_at ws t) (joined (word_at ws t) (added claimed size)) v
    (joined_view tier claimed size (word_at ws t) v)
join_fits ps ws vs v t tier claimed size ended within tally due can ok =
    let w : Fields = word_at ws t in
    let n : ℕ = added claimed size in
    let current : (word_at ws t).phase ≡ root_phase ws = admits_current ps ws vs t (added claimed size) tally within can in
    let v' : View = joined_view tier claimed size (word_at ws t) v in
    add_fits ps (root_phase ws) ended t (added claimed size) (word_at ws t) v v'
    (record {
      legal = tally.legal t within;
      phase = current;
      some = added_some claimed size due.some;
      admits = can;
      before_parties = λ u. seeking_party ps u v tier claimed size due.errand due.none;
      before_late = λ u. seeking_late (root_phase ws) ps u v tier claimed size due.errand due.none;
      parties = λ u. joined_party ps u tier claimed size (word_at ws t) v ∙ ap (λ k. only_at k (added claimed size) u) (sym due.here);
      unarrived = λ u. joined_share (root_phase ws) ps u tier claimed size (word_at ws t) v
          ∙ ap (λ k. only_at k (added claimed size) u) (sym due.here);
      claims = λ u. opening_claims ps u tier claimed size Joined
          ∙ sym (ap (errand_claims ps u) due.errand ∙ opening_claims ps u tier claimed size Seeking);
      idle = (ap errand_advances due.errand ∙ opening_idle tier claimed size Seeking, opening_idle tier claimed size Joined);
    })
    (record {
      within = omega arith;
      few = due.few;
      placed = λ _. due.place;
      current = λ _. inl current;
      seen = ok.seen;
      errand = joined_errand ps (root_phase ws) tier claimed size (word_at ws t) v current due.place due.some due.few;
    })
