-- The tally in plain terms follows.
use Rattle.std.proofs.Common.{◌≡◌, ◌≢◌, ℕ, zero, suc, ◌+◌, ◌<◌, ◌≤◌, ⊎_elim, Bool, true, false, cond, eqb, List, [], ◌∷◌, length, refl, sym, ◌∙◌, ap, arith}
use Rattle.std.specs.Prelude.{sum_by}
use Rattle.std.specs.List.{AllByRecursion}
use Rattle.std.proofs.lemmas.List.Sums.{sum_by-cons}
use Rattle.std.proofs.lemmas.Bool.{cases_eq, eq-eqb, ne_eqb, eqb-true}
use Rattle.tier_steps.specs.Word.{Fields, is_empty, is_being_opened, late}
use Rattle.tier_steps.specs.View.{View, Errand, Rest, Opening, Climbing, Advancing, Arrival, Departure, Seeking, Joined, GoingBack, ancestor, absent, only_at, errand_parties, errand_late, is_hidden, party_share, late_share, claims_on, errand_claims, claim_share}
use Rattle.tier_steps.specs.Tally.{word_at, root_phase, Compared, ErrandFits, ViewFits, bit, is_zero, Tallies}
use Rattle.tier_steps.specs.SpelledOut.{members_at, absent_at, departing, climbing, children_on, claimed_children, parties_counted, unarrived_counted, is_under_way, IsViewSpelledOut, TallyIsSpelledOut}
use Rattle.tier_steps.proofs.Chains.{zero_each, both, sum_same}
use Rattle.tier_steps.proofs.Keeping.{all_map}
use Rattle.tier_steps.proofs.Pass.{only_nothing}
use Rattle.tier_steps.proofs.Grow.{absent_none}

-- the parents of claimed tiers are claimed themselves, but for that of the highest
children_claimed : (ps : List ℕ) (tier claimed u : ℕ) → children_on ps tier claimed u ≤ claims_on ps tier (suc claimed) u
children_claimed ps tier zero u = omega arith
children_claimed ps tier (suc claimed) u = let a = children_claimed ps tier claimed u in omega arith

-- the lowest claimed tier is the one that was to be joined
lowest_claimed : (ps : List ℕ) (tier claimed u : ℕ) → only_at tier 1 u ≤ claims_on ps tier (suc claimed) u
lowest_claimed ps tier zero u = omega arith
lowest_claimed ps tier (suc claimed) u = let a = lowest_claimed ps tier claimed u in omega arith

nowhere : (t n u : ℕ) → only_at t 1 u ≡ 0 → only_at t n u ≡ 0
nowhere t n u e = ⊎_elim
    (λ (q : t ≡ u). absurd (let a : only_at t 1 u ≡ 1 = ap (λ b. cond {A = ℕ} b 1 0) (eq-eqb t u q) in omega arith))
    (λ (q : t ≢ u). ap (λ b. cond {A = ℕ} b n 0) (ne_eqb t u q))
    (cases_eq t u)

-- a path whose join was taken, seen from a tier that isn't claimed: its highest tier alone may be a child
only_highest : (ps : List ℕ) (tier claimed n u : ℕ) → 0 < claimed → claims_on ps tier claimed u ≡ 0
    → only_at tier n u + children_on ps tier claimed u ≡ only_at (ancestor ps tier claimed) 1 u
only_highest ps tier zero n u some none = absurd (omega arith)
only_highest ps tier (suc claimed) n u some none =
    let a = lowest_claimed ps tier claimed u in
    let b = nowhere tier n u (omega arith) in
    let c = children_claimed ps tier claimed u in
    omega arith

claims_none : (ps : List ℕ) (root u : ℕ) (v : View) (e : Errand) → ErrandFits ps root v e → errand_claims ps u e ≡ 0
    → members_at u v + departing u e + claimed_children ps u e ≡ cond (is_hidden e) 0 (only_at v.tier v.size u) + errand_parties ps e u
claims_none ps root u v Rest ok h = omega arith
claims_none ps root u v Advancing ok h = omega arith
claims_none ps root u v (Climbing t Arrival) ok h = omega arith
claims_none ps root u v (Climbing t Departure) ok h = omega arith
claims_none ps root u v (Opening tier claimed Joined size) ok h =
    let a = only_highest ps tier claimed v.size u ok.0.claims h in
    let b : only_at v.tier v.size u ≡ only_at tier v.size u = ap (λ k. only_at k v.size u) ok.1.place in
    omega arith
claims_none ps root u v (Opening tier claimed Seeking size) ok h =
    let a = ap (λ k. only_at v.tier k u) ok.1 in let b = only_nothing v.tier u in omega arith
claims_none ps root u v (Opening tier claimed GoingBack size) ok h =
    let a = ap (λ k. only_at v.tier k u) ok.1 in let b = only_nothing v.tier u in omega arith

late_by : (ps : List ℕ) (root u : ℕ) (v : View) (e : Errand) → ErrandFits ps root v e → errand_claims ps u e ≡ 0
    → absent_at root u v + climbing u e + claimed_children ps u e
    ≡ cond (is_hidden e) 0 (only_at v.tier (absent root v) u) + errand_late ps e u
late_by ps root u v Rest ok h = omega arith
late_by ps root u v Advancing ok h = omega arith
late_by ps root u v (Climbing t passage) ok h = omega arith
late_by ps root u v (Opening tier claimed Joined size) ok h =
    let a = only_highest ps tier claimed (absent root v) u ok.0.claims h in
    let b : only_at v.tier (absent root v) u ≡ only_at tier (absent root v) u = ap (λ k. only_at k (absent root v) u) ok.1.place in
    omega arith
late_by ps root u v (Opening tier claimed Seeking size) ok h =
    let a = ap (λ k. only_at v.tier k u) (absent_none root v ok.1) in let b = only_nothing v.tier u in omega arith
late_by ps root u v (Opening tier claimed GoingBack size) ok h =
    let a = ap (λ k. only_at v.tier k u) (absent_none root v ok.1) in let b = only_nothing v.tier u in omega arith

sum_three : {X : Type 0} (f g h : X → ℕ) (xs : List X) → sum_by (λ x. f x + g x + h x) xs ≡ sum_by f xs + sum_by g xs + sum_by h xs
sum_three f g h [] = refl
sum_three f g h (x ∷ xs) =
    let a = sum_by-cons (λ y. f y + g y + h y) x xs in
    let b = sum_by-cons f x xs in let c = sum_by-cons g x xs in let d = sum_by-cons h x xs in
    let e = sum_three f g h xs in omega arith

-- a tier that nobody claims, seen from each token
unclaimed : (ps : List ℕ) (ws : List Fields) (vs : List View) (t : ℕ) → Tallies ps ws vs → t < length ws
    → is_being_opened (word_at ws t) ≡ false
    → AllByRecursion (λ v. ViewFits ps (root_phase ws) (word_at ws 0).ended v × (claim_share ps t v ≡ 0)) vs
unclaimed ps ws vs t tally h plain =
    let none : sum_by (claim_share ps t) vs ≡ 0 = sym (tally.claims t h) ∙ ap bit plain in
    both (ViewFits ps (root_phase ws) (word_at ws 0).ended) (λ v. claim_share ps t v ≡ 0) vs tally.fits
    (zero_each (claim_share ps t) vs none)

parties_as_counted : (ps : List ℕ) (ws : List Fields) (vs : List View) → Tallies ps ws vs → (t : ℕ) → t < length ws → Compared ws t
    → is_being_opened (word_at ws t) ≡ false → (word_at ws t).parties ≡ parties_counted ps ws vs t
parties_as_counted ps ws vs tally t h compared plain =
    let same = sum_same (λ v. members_at t v + departing t v.errand + claimed_children ps t v.errand) (party_share ps t) vs
    (all_map (λ v. ViewFits ps (root_phase ws) (word_at ws 0).ended v × (claim_share ps t v ≡ 0))
    (λ v. members_at t v + departing t v.errand + claimed_children ps t v.errand ≡ party_share ps t v)
    (λ v k. claims_none ps (root_phase ws) t v v.errand k.0.errand k.1) vs (unclaimed ps ws vs t tally h plain)) in
    let a = tally.parties t h compared in
    let b = sum_three (members_at t) (λ v. departing t v.errand) (λ v. claimed_children ps t v.errand) vs in
    omega arith

unarrived_as_counted : (ps : List ℕ) (ws : List Fields) (vs : List View) → Tallies ps ws vs → (t : ℕ) → t < length ws → Compared ws t
    → is_being_opened (word_at ws t) ≡ false → late (root_phase ws) (word_at ws t) ≡ unarrived_counted ps ws vs t
unarrived_as_counted ps ws vs tally t h compared plain =
    let same = sum_same (λ v. absent_at (root_phase ws) t v + climbing t v.errand + claimed_children ps t v.errand)
    (late_share (root_phase ws) ps t) vs
    (all_map (λ v. ViewFits ps (root_phase ws) (word_at ws 0).ended v × (claim_share ps t v ≡ 0))
    (λ v. absent_at (root_phase ws) t v + climbing t v.errand + claimed_children ps t v.errand ≡ late_share (root_phase ws) ps t v)
    (λ v k. late_by ps (root_phase ws) t v v.errand k.0.errand k.1) vs (unclaimed ps ws vs t tally h plain)) in
    let a = tally.unarrived t h compared in
    let b = sum_three (absent_at (root_phase ws) t) (λ v. climbing t v.errand) (λ v. claimed_children ps t v.errand) vs in
    omega arith

empty_plain : (w : Fields) → is_empty w ≡ true → (w.parties ≡ 0) × (is_being_opened w ≡ false)
empty_plain w e = ⊎_elim
    (λ (z : w.parties ≡ 0).
    let one : w.unarrived ≡ 1 = eqb-true w.unarrived 1 (sym (ap (λ b. cond b (eqb w.unarrived 1) false) (eq-eqb w.parties 0 z)) ∙ e) in
    (z, ap (λ b. cond b (eqb w.unarrived 2) false) (eq-eqb w.parties 0 z) ∙ ne_eqb w.unarrived 2 (omega arith)))
    (λ (n : w.parties ≢ 0). absurd (let a : false ≡ true = sym (ap (λ b. cond b (eqb w.unarrived 1) false) (ne_eqb w.parties 0 n)) ∙ e in cc))
    (cases_eq w.parties 0)

none_late : (root : ℕ) (w : Fields) → w.parties ≡ 0 → late root w ≡ 0
none_late root w z = ap (λ b. cond b 0 (cond (eqb w.phase root) w.unarrived w.parties)) (eq-eqb w.parties 0 z)

some_claim : (b : Bool) → 0 < bit b → b ≡ true
some_claim true h = refl
some_claim false h = absurd (omega arith)

under_way : (ps : List ℕ) (root : ℕ) (v : View) (e : Errand) → ErrandFits ps root v e → is_under_way e ≡ true → v.phase ≡ root
under_way ps root v Rest ok h = absurd (let a : false ≡ true = h in cc)
under_way ps root v Advancing ok h = ok
under_way ps root v (Climbing t passage) ok h = ok.0
under_way ps root v (Opening tier claimed Seeking size) ok h = absurd (let a : false ≡ true = h in cc)
under_way ps root v (Opening tier claimed GoingBack size) ok h = absurd (let a : false ≡ true = h in cc)
under_way ps root v (Opening tier claimed Joined size) ok h = ok.1.phase

view_spelled_out : (ps : List ℕ) (root : ℕ) (ended : Bool) (v : View) → ViewFits ps root ended v → IsViewSpelledOut root ended v
view_spelled_out ps root ended v ok = record { current = ok.current; under_way = under_way ps root v v.errand ok.errand; seen = ok.seen }

zero_is : (n : ℕ) → n ≡ 0 → is_zero n ≡ 1
zero_is n e = grind arith

is_zero_of : (n : ℕ) → 0 < is_zero n → n ≡ 0
is_zero_of n h = grind arith

pub tally_is_spelled_out : TallyIsSpelledOut
tally_is_spelled_out ps ws vs shape tally = record {
  parties = parties_as_counted ps ws vs tally;
  unarrived = unarrived_as_counted ps ws vs tally;
  phases = tally.phases;
  empty = λ t below h e.
      let plain = empty_plain (word_at ws t) e in
      let compared : Compared ws t = λ z. absurd (omega arith) in (
        sym (parties_as_counted ps ws vs tally t h compared plain.1) ∙ plain.0,
        sym (unarrived_as_counted ps ws vs tally t h compared plain.1) ∙ none_late (root_phase ws) (word_at ws t) plain.0,
      );
  opened = λ t h e. sym (tally.claims t h) ∙ ap bit e;
  claimed = λ t h k. some_claim (is_being_opened (word_at ws t)) (let a = tally.claims t h in omega arith);
  due = λ going e. sym (tally.advances going) ∙ zero_is (word_at ws 0).unarrived e;
  advances = λ going h. is_zero_of (word_at ws 0).unarrived (let a = tally.advances going in omega arith);
  each = all_map (ViewFits ps (root_phase ws) (word_at ws 0).ended) (IsViewSpelledOut (root_phase ws) (word_at ws 0).ended)
      (view_spelled_out ps (root_phase ws) (word_at ws 0).ended) vs tally.fits;
}
