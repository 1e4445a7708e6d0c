-- Arrive, Leave and Climb fit: each lets one party pass a tier.
use Rattle.std.proofs.Common.{◌≡◌, ◌≢◌, ℕ, zero, suc, ◌+◌, ◌-◌, ◌<◌, ◌≤◌, inl, ⊎_elim, Bool, true, false, cond, eqb, List, ◌∷◌, ◌++◌, length, refl, sym, ◌∙◌, ap, subst, arith}
use Rattle.std.specs.Prelude.{sum_by}
use Rattle.std.proofs.lemmas.Bool.{eq-eqb, ne_eqb}
use Rattle.tier_steps.specs.Word.{Fields, IsLegal, is_being_opened, late}
use Rattle.tier_steps.specs.View.{View, Errand, Rest, Climbing, Advancing, Passage, Arrival, Departure, parent_of, absent, only_at, errand_parties, errand_late, is_hidden, party_share, late_share, errand_claims, claim_share, errand_advances, advance_share}
use Rattle.tier_steps.specs.Tally.{IsShape, word_at, root_phase, ErrandFits, ViewFits, is_zero, Tallies}
use Rattle.tier_steps.specs.Step.{passed, owed, CanPass, CanClimb, climbed_view}
use Rattle.tier_steps.proofs.Legal.{legal_open, passed_legal}
use Rattle.tier_steps.proofs.Balance.{sum_around}
use Rattle.tier_steps.proofs.Passing.{gone, phase_passed, ended_passed, passed_parties, passed_late, passed_linked_parties, passed_linked_late}
use Rattle.tier_steps.proofs.Keeping.{StepFits}

-- what holds of each errand that may be owed holds of the one that is
pub owed_is : (P : Errand → Type 0) (above t : ℕ) (k : Passage) (w : Fields)
    → P Rest → (t ≡ 0 → P Advancing) → ((j : Passage) → 0 < t → P (Climbing above j)) → P (owed above t k w)
owed_is P above zero k w r a c = elim (eqb w.unarrived 1) as (λ b. P (cond b Advancing Rest)) [ true ↦ a refl | false ↦ r ]
owed_is P above (suc t) Arrival w r a c =
    elim (eqb w.unarrived 1) as (λ b. P (cond b (Climbing above Arrival) Rest)) [ true ↦ c Arrival (omega arith) | false ↦ r ]
owed_is P above (suc t) Departure w r a c =
    elim (eqb w.parties 1) as (λ b. P (cond b (Climbing above Departure) (cond (eqb w.unarrived 1) (Climbing above Arrival) Rest))) [
      | true ↦ c Departure (omega arith)
      | false ↦ elim (eqb w.unarrived 1) as (λ b. P (cond b (Climbing above Arrival) Rest)) [ true ↦ c Arrival (omega arith) | false ↦ r ]
    ]

-- what is the same at other tiers is 0 there
pub only_elsewhere : (t n u : ℕ) → u ≢ t → only_at t n u ≡ 0
only_elsewhere t n u h = let other : t ≢ u = omega arith in ap (λ b. cond b n 0) (ne_eqb t u other)

pub only_here : (t n : ℕ) → only_at t n t ≡ n
only_here t n = ap (λ b. cond b n 0) (eq-eqb t t refl)

passed_not_opened : (t : ℕ) (k : Passage) (w : Fields) → IsLegal w → 0 < w.parties → 0 < w.unarrived
    → is_being_opened (passed t k w) ≡ false
passed_not_opened t Arrival w legal p u = grind arith
passed_not_opened zero Departure w legal p u = let c = legal_open w legal p in grind arith
passed_not_opened (suc t) Departure w legal p u = let c = legal_open w legal p in grind arith

rooted : (n : ℕ) → 0 < n → is_zero (n - 1) ≡ errand_advances (cond (eqb n 1) Advancing Rest)
rooted n h = grind arith

passed_advances : (ps : List ℕ) (t : ℕ) (k : Passage) (w : Fields) → 0 < w.unarrived → t ≡ 0
    → is_zero (passed t k w).unarrived ≡ errand_advances (owed (parent_of ps t) t k w)
passed_advances ps zero Arrival w u e = rooted w.unarrived u
passed_advances ps zero Departure w u e = rooted w.unarrived u
passed_advances ps (suc t) k w u e = absurd (omega arith)

pub plain_party : (ps : List ℕ) (u : ℕ) (v : View) → is_hidden v.errand ≡ false
    → party_share ps u v ≡ only_at v.tier v.size u + errand_parties ps v.errand u
plain_party ps u v h = ap (λ b. cond b 0 (only_at v.tier v.size u) + errand_parties ps v.errand u) h

pub plain_late : (root : ℕ) (ps : List ℕ) (u : ℕ) (v : View) → is_hidden v.errand ≡ false
    → late_share root ps u v ≡ only_at v.tier (absent root v) u + errand_late ps v.errand u
plain_late root ps u v h = ap (λ b. cond b 0 (only_at v.tier (absent root v) u) + errand_late ps v.errand u) h

climbs_elsewhere_parties : (ps : List ℕ) (t : ℕ) → (0 < t → parent_of ps t ≢ t) → (j : Passage) → 0 < t
    → errand_parties ps (Climbing (parent_of ps t) j) t ≡ 0
climbs_elsewhere_parties ps t above Arrival h = refl
climbs_elsewhere_parties ps t above Departure h = only_elsewhere (parent_of ps t) 1 t (λ e. above h (sym e))

pub open_not_opened : (w : Fields) → 0 < w.parties → is_being_opened w ≡ false
open_not_opened w h = ap (λ b. cond b (eqb w.unarrived 2) false) (ne_eqb w.parties 0 (omega arith))

-- what a step at the tier t owes, if the token's shares fall by those of one party at t
pub record Passes (ps : List ℕ) (root : ℕ) (t : ℕ) (k : Passage) (w : Fields) (v v' : View) : Type 0 where
  pub legal : IsLegal w
  pub phase : w.phase ≡ root
  pub some : 0 < w.parties
  pub waits : 0 < w.unarrived
  pub errand : v'.errand ≡ owed (parent_of ps t) t k w
  pub plain : is_hidden v.errand ≡ false
  pub unclaimed : (u : ℕ) → claim_share ps u v ≡ 0
  pub idle : advance_share v ≡ 0
  pub parties : (u : ℕ) → only_at v.tier v.size u + errand_parties ps v.errand u ≡ only_at v'.tier v'.size u + only_at t (gone k) u
  pub unarrived : (u : ℕ)
      → only_at v.tier (absent root v) u + errand_late ps v.errand u ≡ only_at v'.tier (absent root v') u + only_at t 1 u

pub pass_fits : (ps : List ℕ) (root : ℕ) (ended : Bool) (t : ℕ) (k : Passage) (w : Fields) (v v' : View) → IsShape ps → t < length ps
    → Passes ps root t k w v v' → ViewFits ps root ended v' → StepFits ps root ended t w (passed t k w) v v'
pass_fits ps root ended t k w v v' shape within p ok =
    let hidden : is_hidden v'.errand ≡ false = ap is_hidden p.errand
    ∙ owed_is (λ e. is_hidden e ≡ false) (parent_of ps t) t k w refl (λ _. refl) (λ _ _. refl) in
    let above : (0 < t) → parent_of ps t ≢ t = λ h. (let b : parent_of ps t < t = shape.earlier t h within in omega arith) in
    let parties_at : errand_parties ps v'.errand t ≡ 0 = ap (λ e. errand_parties ps e t) p.errand
    ∙ owed_is (λ e. errand_parties ps e t ≡ 0) (parent_of ps t) t k w refl (λ _. refl) (climbs_elsewhere_parties ps t above) in
    let late_at : errand_late ps v'.errand t ≡ 0 = ap (λ e. errand_late ps e t) p.errand
    ∙ owed_is (λ e. errand_late ps e t ≡ 0) (parent_of ps t) t k w refl (λ _. refl)
    (λ j h. only_elsewhere (parent_of ps t) 1 t (λ e. above h (sym e))) in
    let claims_none : (u : ℕ) → claim_share ps u v' ≡ 0 = λ u. ap (errand_claims ps u) p.errand
    ∙ owed_is (λ e. errand_claims ps u e ≡ 0) (parent_of ps t) t k w refl (λ _. refl) (λ _ _. refl) in
    record {
      legal = passed_legal t k w p.legal;
      phase = λ _. phase_passed t k w;
      same_end = λ _. ended_passed t k w;
      ended_stays = λ _ e. ended_passed t k w ∙ e;
      parties_here = λ _.
          let a = plain_party ps t v p.plain in let b = plain_party ps t v' hidden in let c = p.parties t in
          let d = only_here t (gone k) in let e = passed_parties t k w p.some in
          omega arith;
      parties_there = λ u n.
          let a = plain_party ps u v p.plain in
          let b = plain_party ps u v' hidden in
          let c = p.parties u in
          let d = only_elsewhere t (gone k) u n in
          let e : errand_parties ps v'.errand u ≡ errand_parties ps (owed (parent_of ps t) t k w) u =
          ap (λ x. errand_parties ps x u) p.errand in
          let f = passed_linked_parties ps t k w u p.some in
          omega arith;
      late_here = λ _.
          let a = plain_late root ps t v p.plain in let b = plain_late root ps t v' hidden in let c = p.unarrived t in
          let d = only_here t 1 in let e = passed_late root t k w p.legal p.phase p.some p.waits in
          omega arith;
      late_there = λ u n.
          let a = plain_late root ps u v p.plain in let b = plain_late root ps u v' hidden in let c = p.unarrived u in
          let d = only_elsewhere t 1 u n in
          let e : errand_late ps v'.errand u ≡ errand_late ps (owed (parent_of ps t) t k w) u = ap (λ x. errand_late ps x u) p.errand in
          let f = passed_linked_late root ps t k w u p.legal p.phase p.some p.waits in
          omega arith;
      claims_here =
          let a = p.unclaimed t in let b = claims_none t in
          let c : cond {A = ℕ} (is_being_opened (passed t k w)) 1 0 ≡ 0 =
          ap (λ (x : Bool). cond {A = ℕ} x 1 0) (passed_not_opened t k w p.legal p.some p.waits) in
          let d : cond {A = ℕ} (is_being_opened w) 1 0 ≡ 0 = ap (λ (x : Bool). cond {A = ℕ} x 1 0) (open_not_opened w p.some) in
          omega arith;
      claims_there = λ u n. claims_none u ∙ sym (p.unclaimed u);
      root_claims = λ _. passed_not_opened t k w p.legal p.some p.waits;
      keeps_up = λ _. inl (phase_passed t k w ∙ p.phase);
      advances_here = λ z _.
          let a = passed_advances ps t k w p.waits z in
          let b : advance_share v' ≡ errand_advances (owed (parent_of ps t) t k w) = ap errand_advances p.errand in
          let c : is_zero w.unarrived ≡ 0 = ap (λ (x : Bool). cond {A = ℕ} x 1 0) (ne_eqb w.unarrived 0 (let d = p.waits in omega arith)) in
          let d = p.idle in
          omega arith;
      advances_there = λ n. ap errand_advances p.errand
          ∙ owed_is (λ e. errand_advances e ≡ 0) (parent_of ps t) t k w refl (λ z. absurd (n z)) (λ _ _. refl) ∙ sym p.idle;
      view = ok;
    }

-- A token counts in the sums.
pub share_fits : (f : View → ℕ) (front back : List View) (v : View) → f v ≤ sum_by f (front ++ v ∷ back)
share_fits f front back v = let a = sum_around f front back v in omega arith

-- a token with an unarrived member is in the root's phase
pub unarrived_is_current : (ps : List ℕ) (root : ℕ) (ended : Bool) (v : View) → ViewFits ps root ended v → v.arrived < v.size
    → v.phase ≡ root
unarrived_is_current ps root ended v ok h = ⊎_elim (λ e. e) (λ e. absurd (let f = e.1 in omega arith)) (ok.current (omega arith))

-- a compared tier that counts an unarrived party in the root's phase is open, and its field says so
pub waiting_open : (root : ℕ) (w : Fields) → 0 < late root w → 0 < w.parties
waiting_open root w h = grind arith

waiting_field : (root : ℕ) (w : Fields) → w.phase ≡ root → 0 < late root w → 0 < w.unarrived
waiting_field root w e h = grind arith

pub waiting_word : (root : ℕ) (w : Fields) → w.phase ≡ root → 0 < late root w → (0 < w.parties) × (0 < w.unarrived)
waiting_word root w e h = (waiting_open root w h, waiting_field root w e h)

-- the tally, seen from one token and one tier
pub stands : (ps : List ℕ) (ws : List Fields) (front back : List View) (v : View) (t : ℕ) → Tallies ps ws (front ++ v ∷ back)
    → t < length ws → (word_at ws t).ended ≡ false → late_share (root_phase ws) ps t v ≤ late (root_phase ws) (word_at ws t)
stands ps ws front back v t tally within going =
    let a = tally.unarrived t within (λ e. ap (λ k. (word_at ws k).ended) (sym e) ∙ going) in
    let b = share_fits (late_share (root_phase ws) ps t) front back v in
    omega arith

-- what is owed fits a token in the root's phase
owed_ok : (ps : List ℕ) (root t : ℕ) (k : Passage) (w : Fields) (v : View) → IsShape ps → t < length ps → v.phase ≡ root
    → ErrandFits ps root v (owed (parent_of ps t) t k w)
owed_ok ps root t k w v shape within e = owed_is (ErrandFits ps root v) (parent_of ps t) t k w tt (λ _. e) (λ j h.
    (e, (let a : parent_of ps t < t = shape.earlier t h within in omega arith)))

pub only_nothing : (t u : ℕ) → only_at t 0 u ≡ 0
only_nothing t u = grind arith

pub absent_current : (root : ℕ) (v : View) → v.phase ≡ root → absent root v ≡ v.size - v.arrived
absent_current root v e = ap (λ b. cond b (v.size - v.arrived) v.size) (eq-eqb v.phase root e)

pub resting_late : (root : ℕ) (ps : List ℕ) (u : ℕ) (v : View) → v.errand ≡ Rest → late_share root ps u v ≡ only_at v.tier (absent root v) u
resting_late root ps u v e =
    let a : late_share root ps u v ≡ only_at v.tier (absent root v) u + 0 =
    ap (λ x. cond (is_hidden x) 0 (only_at v.tier (absent root v) u) + errand_late ps x u) e in
    omega arith

-- the tier of a token that may pass has a party to let pass
pub own_waits : (ps : List ℕ) (ws : List Fields) (front back : List View) (v : View) (t : ℕ) → t < length ws
    → Tallies ps ws (front ++ v ∷ back)
    → CanPass t (word_at ws t) v → v.phase ≡ root_phase ws → (0 < (word_at ws t).parties) × (0 < (word_at ws t).unarrived)
own_waits ps ws front back v t within tally can current =
    waiting_word (root_phase ws) (word_at ws t) (can.current ∙ current)
    (let a = stands ps ws front back v t tally within can.going in
    let b = resting_late (root_phase ws) ps t v can.rest in
    let c = absent_current (root_phase ws) v current in
    let d : only_at v.tier (absent (root_phase ws) v) t ≡ absent (root_phase ws) v =
    ap (λ k. only_at k (absent (root_phase ws) v) t) can.own ∙ only_here t (absent (root_phase ws) v) in
    let e = can.unarrived in
    omega arith)

-- how many members a token has after a passage of one of them, and how many of them have arrived
abbrev size_after : Passage → ℕ → ℕ
size_after Arrival n = n
size_after Departure n = n - 1

abbrev arrived_after : Passage → ℕ → ℕ
arrived_after Arrival n = n + 1
arrived_after Departure n = n

-- a departure takes a member away, and after either passage one is absent no longer
after_passage : (k : Passage) (n a : ℕ) → a < n
    → (n ≡ size_after k n + gone k) × (n - a ≡ size_after k n - arrived_after k a + 1) × (arrived_after k a ≤ size_after k n)
after_passage Arrival n a h = (omega arith, omega arith, omega arith)
after_passage Departure n a h = (omega arith, omega arith, omega arith)

-- the view of a token after a passage of one of its members
abbrev pub passed_view : ℕ → ℕ → Passage → Fields → View → View
passed_view above t k w v = record v { size = size_after k v.size; arrived = arrived_after k v.arrived; errand = owed above t k w }

-- it fits
passed_ok : (ps : List ℕ) (root : ℕ) (ended : Bool) (t : ℕ) (k : Passage) (w : Fields) (v : View) → IsShape ps → t < length ps
    → v.phase ≡ root
    → v.arrived < v.size → ViewFits ps root ended v → ViewFits ps root ended (passed_view (parent_of ps t) t k w v)
passed_ok ps root ended t k w v shape within current h ok = let a = after_passage k v.size v.arrived h in record {
  within = a.2;
  few = (let b = ok.few in let c = a.0 in omega arith);
  placed = λ p. ok.placed (omega arith);
  current = λ _. inl current;
  seen = ok.seen;
  errand = owed_ok ps root t k w (passed_view (parent_of ps t) t k w v) shape within current;
}

-- what a token at rest counts at its tier falls by this many
rest_share : (s t u n m c e : ℕ) → s ≡ t → n ≡ m + c → e ≡ 0 → only_at s n u + e ≡ only_at s m u + only_at t c u
rest_share s t u n m c e own less rest = grind arith

-- a member arrives or leaves at the tier of its token
pub own_pass_fits : (ps : List ℕ) (ws : List Fields) (front back : List View) (v : View) (t : ℕ) (k : Passage) (ended : Bool) → IsShape ps
    → t < length ws → Tallies ps ws (front ++ v ∷ back)
    → CanPass t (word_at ws t) v → ViewFits ps (root_phase ws) ended v
    → StepFits ps (root_phase ws) ended t (word_at ws t) (passed t k (word_at ws t)) v (passed_view (parent_of ps t) t k (word_at ws t) v)
own_pass_fits ps ws front back v t k ended shape within tally can ok =
    let current : v.phase ≡ root_phase ws = unarrived_is_current ps (root_phase ws) ended v ok can.unarrived in
    let waits = own_waits ps ws front back v t within tally can current in
    let inside : t < length ps = subst (λ (n : ℕ). t < n) tally.long within in
    let v' : View = passed_view (parent_of ps t) t k (word_at ws t) v in
    let after = after_passage k v.size v.arrived can.unarrived in
    let fewer : absent (root_phase ws) v ≡ absent (root_phase ws) v' + 1 =
    absent_current (root_phase ws) v current ∙ after.1 ∙ ap (λ n. n + 1) (sym (absent_current (root_phase ws) v' current)) in
    pass_fits ps (root_phase ws) ended t k (word_at ws t) v v' shape inside
    (record {
      legal = tally.legal t within;
      phase = can.current ∙ current;
      some = waits.0;
      waits = waits.1;
      errand = refl;
      plain = ap is_hidden can.rest;
      unclaimed = λ u. ap (errand_claims ps u) can.rest;
      idle = ap errand_advances can.rest;
      parties = λ u. rest_share v.tier t u v.size v'.size (gone k) (errand_parties ps v.errand u) can.own after.0
          (ap (λ x. errand_parties ps x u) can.rest);
      unarrived =
          λ u. rest_share v.tier t u (absent (root_phase ws) v) (absent (root_phase ws) v') 1 (errand_late ps v.errand u) can.own fewer
          (ap (λ x. errand_late ps x u) can.rest);
    })
    (passed_ok ps (root_phase ws) ended t k (word_at ws t) v shape inside current can.unarrived ok)

climbed_ok : (ps : List ℕ) (root : ℕ) (ended : Bool) (t : ℕ) (k : Passage) (w : Fields) (v : View) → IsShape ps → t < length ps
    → v.phase ≡ root → ViewFits ps root ended v → ViewFits ps root ended (climbed_view (parent_of ps t) t k w v)
climbed_ok ps root ended t k w v shape within current ok = record {
  within = ok.within;
  few = ok.few;
  placed = ok.placed;
  current = ok.current;
  seen = ok.seen;
  errand = owed_ok ps root t k w (climbed_view (parent_of ps t) t k w v) shape within current;
}

climb_parties : (ps : List ℕ) (t : ℕ) (k : Passage) (u : ℕ) → errand_parties ps (Climbing t k) u ≡ only_at t (gone k) u
climb_parties ps t Arrival u = sym (only_nothing t u)
climb_parties ps t Departure u = refl

pub climbing_late : (root : ℕ) (ps : List ℕ) (t : ℕ) (k : Passage) (u : ℕ) (v : View) → v.errand ≡ Climbing t k
    → late_share root ps u v ≡ only_at v.tier (absent root v) u + only_at t 1 u
climbing_late root ps t k u v e = ap (λ x. cond (is_hidden x) 0 (only_at v.tier (absent root v) u) + errand_late ps x u) e

pub climb_fits : (ps : List ℕ) (ws : List Fields) (front back : List View) (v : View) (t : ℕ) (k : Passage) (ended : Bool) → IsShape ps
    → t < length ws → Tallies ps ws (front ++ v ∷ back)
    → CanClimb t k (word_at ws t) v → ViewFits ps (root_phase ws) ended v
    → StepFits ps (root_phase ws) ended t (word_at ws t) (passed t k (word_at ws t)) v (climbed_view (parent_of ps t) t k (word_at ws t) v)
climb_fits ps ws front back v t k ended shape within tally can ok =
    let fit : ErrandFits ps (root_phase ws) v (Climbing t k) =
    subst (λ (e : Errand). ErrandFits ps (root_phase ws) v e) can.errand ok.errand in
    let current : v.phase ≡ root_phase ws = fit.0 in
    let waits = waiting_word (root_phase ws) (word_at ws t) (can.current ∙ current)
    (let a = stands ps ws front back v t tally within can.going in let b = climbing_late (root_phase ws) ps t k t v can.errand in
    let c = only_here t 1 in omega arith) in
    let inside : t < length ps = subst (λ (n : ℕ). t < n) tally.long within in
    pass_fits ps (root_phase ws) ended t k (word_at ws t) v (climbed_view (parent_of ps t) t k (word_at ws t) v) shape inside
    (record {
      legal = tally.legal t within;
      phase = can.current ∙ current;
      some = waits.0;
      waits = waits.1;
      errand = refl;
      plain = ap is_hidden can.errand;
      unclaimed = λ u. ap (errand_claims ps u) can.errand;
      idle = ap errand_advances can.errand;
      parties = λ u. ap (λ n. only_at v.tier v.size u + n) (ap (λ x. errand_parties ps x u) can.errand ∙ climb_parties ps t k u);
      unarrived = λ u. ap (λ x. only_at v.tier (absent (root_phase ws) v) u + errand_late ps x u) can.errand;
    })
    (climbed_ok ps (root_phase ws) ended t k (word_at ws t) v shape inside current ok)
