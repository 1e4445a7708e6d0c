-- If everyone has arrived and nobody climbs, no tier counts an unarrived party.
use Rattle.std.proofs.Common.{◌≡◌, ◌≢◌, ℕ, zero, suc, ◌+◌, ◌<◌, ◌≤◌, ⊎_elim, Bool, true, false, cond, eqb, List, [], ◌∷◌, ◌++◌, length, get_or, refl, sym, ◌∙◌, ap, arith}
use Rattle.std.specs.Prelude.{sum_by, ◌&&◌}
use Rattle.std.specs.List.{AllByRecursion}
use Rattle.std.proofs.lemmas.List.Sums.{sum_by-cons}
use Rattle.std.proofs.lemmas.Bool.{cases_eq, eq-eqb, ne_eqb}
use Rattle.tier_steps.specs.Word.{Fields, IsLegal, late}
use Rattle.tier_steps.specs.View.{View, Errand, Rest, Opening, Climbing, Advancing, Passage, Arrival, Departure, Seeking, Joined, GoingBack, parent_of, absent, only_at, errand_late, is_hidden, late_share}
use Rattle.tier_steps.specs.Tally.{IsShape, blank, word_at, root_phase, counted, children_among, children, Balances, ErrandFits, ViewFits, Tallies}
use Rattle.tier_steps.specs.Step.{passed, owed}
use Rattle.tier_steps.proofs.Pass.{only_nothing}
use Rattle.tier_steps.proofs.Passing.{passed_late}
use Rattle.tier_steps.proofs.Chains.{both}
use Rattle.tier_steps.proofs.Keeping.{all_map}
use Rattle.tier_steps.proofs.Members.{token_counts, token_arrived}
use Rattle.flat_phaser.specs.declared.Member.{Member}
use Rattle.flat_phaser.specs.Flat.{has_arrived, everyone_arrived}
use Rattle.flat_phaser.proofs.Everyone.{both_true, everyone_each}
use Rattle.tier_steps.specs.Image.{token_members, all_members, is_climbing, some_climbing}

among_none : (f : Fields → ℕ) (u : ℕ) (ps : List ℕ) (ws : List Fields)
    → ((i : ℕ) → i < length ps → i < length ws → get_or ps i 0 ≡ u → f (get_or ws i blank) ≡ 0) → children_among f u ps ws ≡ 0
among_none f u [] ws h = refl
among_none f u (p ∷ ps) [] h = refl
among_none f u (p ∷ ps) (w ∷ ws) h =
    let a = among_none f u ps ws (λ i k l e. h (suc i) (omega arith) (omega arith) e) in
    let b : cond (eqb p u) (counted f w) 0 ≡ 0 = ⊎_elim
    (λ (e : p ≡ u). ap (λ x. cond x (counted f w) 0) (eq-eqb p u e) ∙ ap (λ k. cond (eqb k 0) 0 1) (h 0 (omega arith) (omega arith) e))
    (λ (n : p ≢ u). ap (λ x. cond x (counted f w) 0) (ne_eqb p u n)) (cases_eq p u) in
    omega arith

pub children_none : (f : Fields → ℕ) (u : ℕ) (ps : List ℕ) (ws : List Fields)
    → ((i : ℕ) → 0 < i → i < length ps → i < length ws → parent_of ps i ≡ u → f (word_at ws i) ≡ 0) → children f u ps ws ≡ 0
children_none f u [] ws h = refl
children_none f u (p ∷ ps) [] h = refl
children_none f u (p ∷ ps) (w ∷ ws) h = among_none f u ps ws (λ i k l e. h (suc i) (omega arith) (omega arith) (omega arith) e)

-- if no token counts anywhere, no tier does: from the last tier to the first
pub nothing_above : (f : Fields → ℕ) (share : ℕ → View → ℕ) (ps : List ℕ) (ws : List Fields) (vs : List View) → IsShape ps
    → length ws ≡ length ps → (word_at ws 0).ended ≡ false
    → Balances f share ps ws vs → ((t : ℕ) → t < length ws → sum_by (share t) vs ≡ 0) → (n t : ℕ) → length ws ≤ t + n → t < length ws
    → f (word_at ws t) ≡ 0
nothing_above f share ps ws vs shape long going balance none zero t h k = absurd (omega arith)
nothing_above f share ps ws vs shape long going balance none (suc n) t h k =
    let a = balance t k (λ z. going) in
    let b = none t k in
    let c = children_none f t ps ws (λ i z j l e. nothing_above f share ps ws vs shape long going balance none n i
    (let d : parent_of ps i < i = shape.earlier i z j in omega arith) l) in
    omega arith

pub sum_zero : {X : Type 0} (f : X → ℕ) (xs : List X) → AllByRecursion (λ x. f x ≡ 0) xs → sum_by f xs ≡ 0
sum_zero f [] h = refl
sum_zero f (x ∷ xs) h = let a = sum_by-cons f x xs in let b = h.0 in let c = sum_zero f xs h.1 in omega arith

everyone_append : (p : ℕ) (xs ys : List Member) → everyone_arrived p (xs ++ ys) ≡ true
    → (everyone_arrived p xs ≡ true) × (everyone_arrived p ys ≡ true)
everyone_append p [] ys h = (refl, h)
everyone_append p (x ∷ xs) ys h =
    let a = both_true (has_arrived p x) (everyone_arrived p (xs ++ ys)) h in
    let b = everyone_append p xs ys a.1 in
    (ap (λ k. k && everyone_arrived p xs) a.0 ∙ b.0, b.1)

-- all members of the token have arrived
abbrev pub IsHere : ℕ → View → Type 0
IsHere p v = v.arrived ≤ v.size → v.size ≡ cond {A = ℕ} (eqb v.phase p) v.arrived 0

pub everyone_here : (p o : ℕ) (vs : List View) → everyone_arrived p (all_members o vs) ≡ true → AllByRecursion (IsHere p) vs
everyone_here p o [] h = tt
everyone_here p o (v ∷ vs) h =
    let a = everyone_append p (token_members o v) (all_members (suc o) vs) h in (
      (λ k. (let b = everyone_each p (token_members o v) a.0 o in let c = token_counts o o v k in let d = token_arrived p o o v in
          let e : cond {A = ℕ} (eqb o o) v.size 0 ≡ v.size = ap (λ x. cond {A = ℕ} x v.size 0) (eq-eqb o o refl) in
          let f : cond {A = ℕ} (eqb o o) (cond {A = ℕ} (eqb v.phase p) v.arrived 0) 0 ≡ cond {A = ℕ} (eqb v.phase p) v.arrived 0 =
          ap (λ x. cond {A = ℕ} x (cond {A = ℕ} (eqb v.phase p) v.arrived 0) 0) (eq-eqb o o refl) in
          omega arith)),
      everyone_here p (suc o) vs a.1,
    )

or_parts : (a b : Bool) → cond a true b ≡ false → (a ≡ false) × (b ≡ false)
or_parts true b e = absurd (let f : true ≡ false = e in cc)
or_parts false b e = (refl, e)

nobody_climbing : (vs : List View) → some_climbing vs ≡ false → AllByRecursion (λ v. is_climbing v.errand ≡ false) vs
nobody_climbing [] h = tt
nobody_climbing (v ∷ vs) h = let a = or_parts (is_climbing v.errand) (some_climbing vs) h in (a.0, nobody_climbing vs a.1)

here_absent : (p : ℕ) (v : View) → v.size ≡ cond {A = ℕ} (eqb v.phase p) v.arrived 0 → absent p v ≡ 0
here_absent p v e = grind arith

still_by : (ps : List ℕ) (p u : ℕ) (v : View) (e : Errand) → is_climbing e ≡ false → ErrandFits ps p v e
    → v.size ≡ cond {A = ℕ} (eqb v.phase p) v.arrived 0
    → cond (is_hidden e) 0 (only_at v.tier (absent p v) u) + errand_late ps e u ≡ 0
still_by ps p u v Rest c ok h = let a = ap (λ k. only_at v.tier k u) (here_absent p v h) in let b = only_nothing v.tier u in omega arith
still_by ps p u v Advancing c ok h = absurd (let a : true ≡ false = c in cc)
still_by ps p u v (Climbing t k) c ok h = absurd (let a : true ≡ false = c in cc)
still_by ps p u v (Opening tier claimed Joined size) c ok h = absurd
    (let a : cond {A = ℕ} (eqb v.phase p) v.arrived 0 ≡ v.arrived = ap (λ x. cond {A = ℕ} x v.arrived 0) (eq-eqb v.phase p ok.1.phase) in
    let b = ok.1.arrived in let d = ok.1.members in let e = ok.0.some in omega arith)
still_by ps p u v (Opening tier claimed Seeking size) c ok h = refl
still_by ps p u v (Opening tier claimed GoingBack size) c ok h = refl

-- If everyone has arrived and nobody climbs or advances, no tier counts an unarrived party.
pub all_still : (ps : List ℕ) (ws : List Fields) (vs : List View) → IsShape ps → Tallies ps ws vs → (word_at ws 0).ended ≡ false
    → everyone_arrived (root_phase ws) (all_members 0 vs) ≡ true → some_climbing vs ≡ false
    → (t : ℕ) → t < length ws → late (root_phase ws) (word_at ws t) ≡ 0
all_still ps ws vs shape tally going everyone nobody t h =
    let facts =
    both (ViewFits ps (root_phase ws) (word_at ws 0).ended) (λ v. IsHere (root_phase ws) v × (is_climbing v.errand ≡ false)) vs tally.fits
    (both (IsHere (root_phase ws)) (λ v. is_climbing v.errand ≡ false) vs (everyone_here (root_phase ws) 0 vs everyone)
    (nobody_climbing vs nobody)) in
    nothing_above (late (root_phase ws)) (late_share (root_phase ws) ps) ps ws vs shape tally.long going tally.unarrived
    (λ u k. sum_zero (late_share (root_phase ws) ps u) vs
    (all_map (λ v. ViewFits ps (root_phase ws) (word_at ws 0).ended v × (IsHere (root_phase ws) v × (is_climbing v.errand ≡ false)))
    (λ v. late_share (root_phase ws) ps u v ≡ 0)
    (λ v f. still_by ps (root_phase ws) u v v.errand f.1.1 f.0.errand (f.1.0 f.0.within)) vs facts))
    (length ws) t (omega arith) h

last_climbs : (ps : List ℕ) (t : ℕ) (k : Passage) (w : Fields) → eqb w.unarrived 1 ≡ true
    → is_climbing (owed (parent_of ps t) t k w) ≡ false → ⊥
last_climbs ps zero k w z h = let a : is_climbing (owed (parent_of ps zero) zero k w) ≡ true =
    ap (λ b. is_climbing (cond b Advancing Rest)) z in let b : true ≡ false = sym a ∙ h in cc
last_climbs ps (suc t) Arrival w z h = let a : is_climbing (owed (parent_of ps (suc t)) (suc t) Arrival w) ≡ true =
    ap (λ b. is_climbing (cond b (Climbing (parent_of ps (suc t)) Arrival) Rest)) z in let b : true ≡ false = sym a ∙ h in cc
last_climbs ps (suc t) Departure w z h =
    let a : is_climbing (owed (parent_of ps (suc t)) (suc t) Departure w) ≡ true =
    ap (λ b. is_climbing (cond (eqb w.parties 1) (Climbing (parent_of ps (suc t)) Departure)
    (cond b (Climbing (parent_of ps (suc t)) Arrival) Rest))) z
    ∙ (elim (eqb w.parties 1) as (λ b. is_climbing
    (cond b (Climbing (parent_of ps (suc t)) Departure) (Climbing (parent_of ps (suc t)) Arrival)) ≡ true)
    [ true ↦ refl | false ↦ refl ]) in
    let b : true ≡ false = sym a ∙ h in cc

-- a party that passes and owes nothing leaves another party unarrived
pub passed_rests : (ps : List ℕ) (root t : ℕ) (k : Passage) (w : Fields) → IsLegal w → w.phase ≡ root → 0 < w.parties → 0 < w.unarrived
    → is_climbing (owed (parent_of ps t) t k w) ≡ false → 0 < late root (passed t k w)
passed_rests ps root t k w legal e p u h =
    let a = passed_late root t k w legal e p u in
    let b : late root w ≡ w.unarrived = ap (λ x. cond x 0 (cond (eqb w.phase root) w.unarrived w.parties)) (ne_eqb w.parties 0
    (omega arith)) ∙ ap (λ x. cond x w.unarrived w.parties) (eq-eqb w.phase root e) in
    let c : w.unarrived ≢ 1 = λ z. last_climbs ps t k w (eq-eqb w.unarrived 1 z) h in
    omega arith
