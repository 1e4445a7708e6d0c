-- What a step at one tier and one view owes, so that words and views tally afterwards.
use Rattle.std.proofs.Common.{◌≡◌, ◌≢◌, ℕ, zero, suc, ◌+◌, ◌<◌, ⊎_elim, Bool, true, false, List, [], ◌∷◌, ◌++◌, length, set, length-set, refl, sym, ◌∙◌, ap, subst, arith}
use Rattle.std.specs.Prelude.{sum_by}
use Rattle.std.specs.List.{AllByRecursion}
use Rattle.std.proofs.lemmas.List.{get_or-set_same, get_or-set_other}
use Rattle.std.proofs.lemmas.Bool.{cases_eq}
use Rattle.tier_steps.specs.Word.{Fields, IsLegal, is_being_opened, late}
use Rattle.tier_steps.specs.View.{View, party_share, late_share, claim_share, advance_share}
use Rattle.tier_steps.specs.Tally.{IsShape, blank, word_at, root_phase, counted, Compared, Balances, KeepsUp, ViewFits, bit, is_zero, Tallies}
use Rattle.tier_steps.proofs.Balance.{linked, balance_kept, sum_changes}

pub all_around : {X : Type 0} (P : X → Type 0) (front back : List X) (v v' : X) → AllByRecursion P (front ++ v ∷ back) → P v'
    → AllByRecursion P (front ++ v' ∷ back)
all_around P [] back v v' h p = (p, h.1)
all_around P (x ∷ front) back v v' h p = (h.0, all_around P front back v v' h.1 p)

pub all_here : {X : Type 0} (P : X → Type 0) (front back : List X) (v : X) → AllByRecursion P (front ++ v ∷ back) → P v
all_here P [] back v h = h.0
all_here P (x ∷ front) back v h = all_here P front back v h.1

pub all_map : {X : Type 0} (P Q : X → Type 0) → ((x : X) → P x → Q x) → (xs : List X) → AllByRecursion P xs → AllByRecursion Q xs
all_map P Q f [] h = tt
all_map P Q f (x ∷ xs) h = (f x h.0, all_map P Q f xs h.1)

-- The facts of a step at the tier t, from the word w and the view v, in a tree whose root is in this phase.
pub record StepFits (ps : List ℕ) (root : ℕ) (ended : Bool) (t : ℕ) (w w' : Fields) (v v' : View) : Type 0 where
  pub legal : IsLegal w'
  pub phase : t ≡ 0 → w'.phase ≡ w.phase
  pub same_end : 0 < t → w'.ended ≡ w.ended
  pub ended_stays : t ≡ 0 → w.ended ≡ true → w'.ended ≡ true
  pub parties_here : (t ≡ 0 → w'.ended ≡ false) → w'.parties + party_share ps t v ≡ w.parties + party_share ps t v'
  pub parties_there : (u : ℕ) → u ≢ t → party_share ps u v' + linked ps u t (counted
      (λ x. x.parties) w') ≡ party_share ps u v + linked ps u t (counted (λ x. x.parties) w)
  pub late_here : (t ≡ 0 → w'.ended ≡ false) → late root w' + late_share root ps t v ≡ late root w + late_share root ps t v'
  pub late_there : (u : ℕ) → u ≢ t → late_share root ps u v' + linked ps u t (counted
      (late root) w') ≡ late_share root ps u v + linked ps u t (counted (late root) w)
  pub claims_here : bit (is_being_opened w') + claim_share ps t v ≡ bit (is_being_opened w) + claim_share ps t v'
  pub claims_there : (u : ℕ) → u ≢ t → claim_share ps u v' ≡ claim_share ps u v
  pub root_claims : t ≡ 0 → is_being_opened w' ≡ false
  pub keeps_up : KeepsUp root w'
  pub advances_here : t ≡ 0 → w'.ended ≡ false → is_zero w'.unarrived + advance_share v ≡ is_zero w.unarrived + advance_share v'
  pub advances_there : t ≢ 0 → advance_share v' ≡ advance_share v
  pub view : ViewFits ps root ended v'

-- the same as a premise on the root: it stays in its phase, and doesn't begin anew
pub record RootStays (old new : Fields) : Type 0 where
  pub phase : new.phase ≡ old.phase
  pub ended : old.ended ≡ true → new.ended ≡ true

open_before : (old new : Bool) → (old ≡ true → new ≡ true) → new ≡ false → old ≡ false
open_before true new h e = absurd (let a : true ≡ new = sym (h refl) in cc)
open_before false new h e = refl

-- a view fits a root that has ended since
pub view_later : (ps : List ℕ) (root : ℕ) (old new : Bool) → (old ≡ true → new ≡ true) → (v : View) → ViewFits ps root old v
    → ViewFits ps root new v
view_later ps root old new h v ok = record {
  within = ok.within;
  few = ok.few;
  placed = ok.placed;
  current = ok.current;
  seen = λ p e. let s = ok.seen p e in (h s.0, s.1);
  errand = ok.errand;
}

root_after : (ws : List Fields) (t : ℕ) (w' : Fields) → t < length ws → (t ≡ 0 → w'.phase ≡ (word_at ws t).phase)
    → (t ≡ 0 → (word_at ws t).ended ≡ true → w'.ended ≡ true)
    → RootStays (word_at ws 0) (word_at (set ws t w') 0)
root_after ws zero w' h p e = record {
  phase = ap (λ (x : Fields). x.phase) (get_or-set_same ws 0 w' blank h) ∙ p refl;
  ended = λ was. ap (λ (x : Fields). x.ended) (get_or-set_same ws 0 w' blank h) ∙ e refl was;
}
root_after ws (suc t) w' h p e =
    let other : 0 ≢ suc t = omega arith in
    let same : word_at (set ws (suc t) w') 0 ≡ word_at ws 0 = get_or-set_other ws (suc t) 0 w' blank other in
    record { phase = ap (λ (x : Fields). x.phase) same; ended = λ was. ap (λ (x : Fields). x.ended) same ∙ was }

-- At the tier t the word becomes w', and everywhere else the words stay.
pub at_each : (ws : List Fields) (t : ℕ) (w' : Fields) (P : ℕ → Fields → Type 0) → t < length ws → P t w'
    → ((u : ℕ) → u < length ws → u ≢ t → P u (word_at ws u)) → (u : ℕ) → u < length (set ws t w') → P u (word_at (set ws t w') u)
at_each ws t w' P within here there u below =
    let inside : u < length ws = subst (λ (n : ℕ). u < n) (length-set ws t w') below in
    ⊎_elim
    (λ (e : u ≡ t). subst (λ (x : Fields). P u x) (sym (ap (λ k. word_at (set ws t w') k) e ∙ get_or-set_same ws t w' blank within))
    (subst (λ (k : ℕ). P k w') (sym e) here))
    (λ (n : u ≢ t). subst (λ (x : Fields). P u x) (sym (get_or-set_other ws t u w' blank n)) (there u inside n))
    (cases_eq u t)

root_unclaimed : (ws : List Fields) (t : ℕ) (w' : Fields) → t < length ws → (t ≡ 0 → is_being_opened w' ≡ false)
    → is_being_opened (word_at ws 0) ≡ false → is_being_opened (word_at (set ws t w') 0) ≡ false
root_unclaimed ws zero w' h p e = ap is_being_opened (get_or-set_same ws 0 w' blank h) ∙ p refl
root_unclaimed ws (suc t) w' h p e = let other : 0 ≢ suc t = omega arith in
    ap is_being_opened (get_or-set_other ws (suc t) 0 w' blank other) ∙ e

advances_kept : (ws : List Fields) (front back : List View) (v v' : View) (t : ℕ) (w' : Fields) → t < length ws
    → (t ≡ 0 → w'.ended ≡ false → is_zero w'.unarrived + advance_share v ≡ is_zero (word_at ws t).unarrived + advance_share v')
    → (t ≢ 0 → advance_share v' ≡ advance_share v)
    → ((word_at ws 0).ended ≡ true → (word_at (set ws t w') 0).ended ≡ true)
    → ((word_at ws 0).ended ≡ false → is_zero (word_at ws 0).unarrived ≡ sum_by advance_share (front ++ v ∷ back))
    → (word_at (set ws t w') 0).ended ≡ false → is_zero (word_at (set ws t w') 0).unarrived ≡ sum_by advance_share (front ++ v' ∷ back)
advances_kept ws front back v v' zero w' within here there stays old z =
    let same : word_at (set ws 0 w') 0 ≡ w' = get_or-set_same ws 0 w' blank within in
    let a : is_zero (word_at ws 0).unarrived ≡ sum_by advance_share (front ++ v ∷ back) =
    old (open_before (word_at ws 0).ended (word_at (set ws 0 w') 0).ended stays z) in
    let b : is_zero w'.unarrived + advance_share v ≡ is_zero (word_at ws 0).unarrived + advance_share v' =
    here refl (ap (λ (x : Fields). x.ended) (sym same) ∙ z) in
    let c = sum_changes advance_share front back v v' in
    ap (λ (x : Fields). is_zero x.unarrived) same ∙ omega arith
advances_kept ws front back v v' (suc t) w' within here there stays old z =
    let other : 0 ≢ suc t = omega arith in
    let not_root : suc t ≢ 0 = omega arith in
    let same : word_at (set ws (suc t) w') 0 ≡ word_at ws 0 = get_or-set_other ws (suc t) 0 w' blank other in
    let a : is_zero (word_at ws 0).unarrived ≡ sum_by advance_share (front ++ v ∷ back) =
    old (open_before (word_at ws 0).ended (word_at (set ws (suc t) w') 0).ended stays z) in
    let b : advance_share v' ≡ advance_share v = there not_root in
    let c = sum_changes advance_share front back v v' in
    ap (λ (x : Fields). is_zero x.unarrived) same ∙ omega arith

-- A step that fits keeps the tally.
pub tally_kept : (ps : List ℕ) (ws : List Fields) (front back : List View) (v v' : View) (t : ℕ) (w' : Fields)
    → IsShape ps → t < length ws → Tallies ps ws (front ++ v ∷ back)
    → StepFits ps (root_phase ws) (word_at (set ws t w') 0).ended t (word_at ws t) w' v v'
    → Tallies ps (set ws t w') (front ++ v' ∷ back)
tally_kept ps ws front back v v' t w' shape within old fits =
    let root : RootStays (word_at ws 0) (word_at (set ws t w') 0) = root_after ws t w' within fits.phase fits.ended_stays in
    let still : (u : ℕ) → Compared (set ws t w') u
    → Compared ws u = λ u h z. open_before (word_at ws 0).ended (word_at (set ws t w') 0).ended root.ended (h z) in
    record {
      long = length-set ws t w' ∙ old.long;
      some = subst (λ (n : ℕ). 0 < n) (sym (length-set ws t w')) old.some;
      legal = at_each ws t w' (λ u x. IsLegal x) within fits.legal (λ u h n. old.legal u h);
      ends = λ u below h. at_each ws t w' (λ k x. 0 < k → x.ended ≡ false) within
          (λ k. fits.same_end k ∙ old.ends t k within) (λ k h n z. old.ends k z h) u h below;
      parties = balance_kept (λ x. x.parties)
          (party_share ps) ps ws front back v v' t w' shape old.long within still old.parties fits.parties_here fits.parties_there;
      unarrived = subst (λ (r : ℕ). Balances (late r) (late_share r ps) ps (set ws t w') (front ++ v' ∷ back)) (sym root.phase)
          (balance_kept (late (root_phase ws)) (late_share
          (root_phase ws) ps) ps ws front back v v' t w' shape old.long within still old.unarrived fits.late_here fits.late_there);
      claims = at_each ws t w' (λ u x. bit (is_being_opened x) ≡ sum_by (claim_share ps u) (front ++ v' ∷ back)) within
          (let a = old.claims t within in let b = sum_changes (claim_share ps t) front back v v' in let c = fits.claims_here in omega arith)
          (λ u h n. let a = old.claims u h in
          let b = sum_changes (claim_share ps u) front back v v' in
          let c = fits.claims_there u n in
          omega arith);
      root_claims = root_unclaimed ws t w' within fits.root_claims old.root_claims;
      phases = subst (λ (r : ℕ). (u : ℕ) → u < length (set ws t w') → KeepsUp r (word_at (set ws t w') u)) (sym root.phase)
          (at_each ws t w' (λ u x. KeepsUp (root_phase ws) x) within fits.keeps_up (λ u h n. old.phases u h));
      advances = λ z. advances_kept ws front back v v' t w' within fits.advances_here fits.advances_there root.ended old.advances z;
      fits = subst (λ (r : ℕ). AllByRecursion (ViewFits ps r (word_at (set ws t w') 0).ended) (front ++ v' ∷ back)) (sym root.phase)
          (all_around (ViewFits ps (root_phase ws) (word_at (set ws t w') 0).ended) front back v v'
          (all_map (ViewFits ps (root_phase ws) (word_at ws 0).ended) (ViewFits ps (root_phase ws) (word_at (set ws t w') 0).ended)
          (view_later ps (root_phase ws) (word_at ws 0).ended (word_at (set ws t w') 0).ended root.ended) (front ++ v ∷ back) old.fits)
          fits.view);
    }
