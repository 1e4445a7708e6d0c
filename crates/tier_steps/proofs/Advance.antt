-- The Advance of the root keeps the tally: all have arrived, and all are unarrived in the next phase.
use Rattle.std.proofs.Common.{◌≡◌, ◌≢◌, ℕ, zero, suc, ◌+◌, ◌-◌, ◌<◌, ◌≤◌, inl, inr, ⊎_elim, Bool, true, false, cond, eqb, List, ◌∷◌, ◌++◌, length, set, length-set, refl, sym, ◌∙◌, ap, subst, arith}
use Rattle.std.specs.Prelude.{sum_by}
use Rattle.std.specs.List.{AllByRecursion}
use Rattle.std.proofs.lemmas.List.{get_or-set_same, get_or_past}
use Rattle.std.proofs.lemmas.Bool.{cases_eq, cases_lt, eq-eqb, ne_eqb}
use Rattle.tier_steps.specs.Word.{Fields, IsLegal, next_phase_of, is_being_opened, late, advanced}
use Rattle.tier_steps.specs.View.{View, Errand, Rest, Opening, Climbing, Advancing, Seeking, Joined, GoingBack, parent_of, ancestor, absent, only_at, errand_parties, errand_late, is_hidden, party_share, late_share, errand_claims, claim_share, errand_advances, advance_share}
use Rattle.tier_steps.specs.Tally.{IsShape, blank, word_at, root_phase, children, Compared, Balances, KeepsUp, ErrandFits, ViewFits, bit, is_zero, Tallies}
use Rattle.tier_steps.specs.Step.{CanAdvance, advanced_view}
use Rattle.tier_steps.proofs.Legal.{advanced_legal}
use Rattle.tier_steps.proofs.Balance.{balance_kept, sum_changes}
use Rattle.tier_steps.proofs.Keeping.{all_around, all_here, all_map, at_each}
use Rattle.tier_steps.proofs.Pass.{only_here, share_fits}
use Rattle.tier_steps.proofs.Chains.{nothing_below, sums_zero, zero_each, each_below, sum_same, both, children_same}

-- nobody is unarrived: what the root's field says of all tiers and all tokens
pub record AllArrived (ps : List ℕ) (ws : List Fields) (vs : List View) : Type 0 where
  pub tiers : (t : ℕ) → t < length ws → late (root_phase ws) (word_at ws t) ≡ 0
  pub tokens : AllByRecursion (λ v. (t : ℕ) → t < length ps → late_share (root_phase ws) ps t v ≡ 0) vs

zero_late : (root : ℕ) (w : Fields) → w.phase ≡ root → w.unarrived ≡ 0 → late root w ≡ 0
zero_late root w e z = grind arith

pub all_arrived : (ps : List ℕ) (ws : List Fields) (vs : List View) → IsShape ps → Tallies ps ws vs → (word_at ws 0).ended ≡ false
    → (word_at ws 0).unarrived ≡ 0 → AllArrived ps ws vs
all_arrived ps ws vs shape tally going none =
    let tiers : (t : ℕ) → t < length ws → late (root_phase ws) (word_at ws t) ≡ 0 = λ t h.
    nothing_below (late (root_phase ws)) (late_share (root_phase ws) ps) ps ws vs shape tally.long going tally.unarrived
    (zero_late (root_phase ws) (word_at ws 0) refl none) (suc t) t (omega arith) h in
    record {
      tiers = tiers;
      tokens = each_below (λ t v. late_share (root_phase ws) ps t v ≡ 0) (length ps) vs
          (λ t h. let inside : t < length ws = subst (λ (k : ℕ). t < k) (sym tally.long) h in
          zero_each (late_share (root_phase ws) ps t) vs
          (sums_zero (late (root_phase ws)) (late_share (root_phase ws) ps) ps ws vs going tally.unarrived t inside (tiers t inside)));
    }

pub next_differs : (p : ℕ) → p ≤ 2147483647 → next_phase_of p ≢ p
next_differs p h e = ⊎_elim
    (λ (m : p ≡ 2147483647). (let a : next_phase_of p ≡ 0 = ap (λ b. cond b 0 (p + 1)) (eq-eqb p 2147483647 m) in omega arith))
    (λ (m : p ≢ 2147483647). (let a : next_phase_of p ≡ p + 1 = ap (λ b. cond b 0 (p + 1)) (ne_eqb p 2147483647 m) in omega arith))
    (cases_eq p 2147483647)

parent_within : (ps : List ℕ) (t : ℕ) → IsShape ps → 0 < length ps → parent_of ps t < length ps
parent_within ps zero shape h = subst (λ (k : ℕ). k < length ps) (sym shape.root) h
parent_within ps (suc t) shape h = ⊎_elim
    (λ (below : suc t < length ps). (let a : parent_of ps (suc t) < suc t = shape.earlier (suc t) (omega arith) below in omega arith))
    (λ (past : length ps ≤ suc t). subst (λ (k : ℕ). k < length ps) (sym (get_or_past ps (suc t) 0 past)) h)
    (cases_lt (suc t) (length ps))

pub ancestor_within : (ps : List ℕ) (tier above : ℕ) → IsShape ps → tier < length ps → ancestor ps tier above < length ps
ancestor_within ps tier zero shape h = h
ancestor_within ps tier (suc above) shape h = parent_within ps (ancestor ps tier above) shape shape.some

-- a token whose shares are 0 at each tier: all its members have arrived in the root's phase, and it owes nothing but the advance
pub record IsDone (root : ℕ) (v : View) : Type 0 where
  pub phase : 0 < v.size → v.phase ≡ root
  pub arrived : v.arrived ≡ v.size
  pub shares : (ps : List ℕ) (u : ℕ) → errand_parties ps v.errand u ≡ 0
  pub lates : (ps : List ℕ) (u : ℕ) → errand_late ps v.errand u ≡ 0

-- the members of a token that isn't hidden
placed_done : (ps : List ℕ) (root : ℕ) (ended : Bool) (v : View) → ViewFits ps root ended v
    → (v.tier < length ps → only_at v.tier (absent root v) v.tier ≡ 0) → (0 < v.size → v.phase ≡ root) × (v.arrived ≡ v.size)
placed_done ps root ended v ok none =
    ⊎_elim
    (λ (z : v.size ≡ 0). ((λ h. absurd (omega arith)), (let a = ok.within in omega arith)))
    (λ (h : v.size ≢ 0).
    let place : v.tier < length ps = ok.placed (omega arith) in
    let none : absent root v ≡ 0 = sym (only_here v.tier (absent root v)) ∙ none place in
    ⊎_elim
    (λ (e : v.phase ≡ root). (
      (λ _. e),
      (let a : absent root v ≡ v.size - v.arrived = ap (λ b. cond b (v.size - v.arrived) v.size)
          (eq-eqb v.phase root e) in let b = ok.within in omega arith),
    ))
    (λ (n : v.phase ≢ root). absurd (let a : absent root v ≡ v.size = ap (λ b. cond b (v.size - v.arrived) v.size)
    (ne_eqb v.phase root n) in omega arith))
    (cases_eq v.phase root))
    (cases_eq v.size 0)

done_by : (ps : List ℕ) (root : ℕ) (ended : Bool) (v : View) (e : Errand) → IsShape ps → 0 < length ps → v.errand ≡ e
    → ViewFits ps root ended v → ErrandFits ps root v e
    → ((t : ℕ) → t < length ps → cond (is_hidden e) 0 (only_at v.tier (absent root v) t) + errand_late ps e t ≡ 0) → IsDone root v
done_by ps root ended v Rest shape some q ok fit none =
    let a = placed_done ps root ended v ok (λ h. let b = none v.tier h in omega arith) in
    record {
      phase = a.0;
      arrived = a.1;
      shares = λ qs u. ap (λ x. errand_parties qs x u) q;
      lates = λ qs u. ap (λ x. errand_late qs x u) q;
    }
done_by ps root ended v Advancing shape some q ok fit none =
    let a = placed_done ps root ended v ok (λ h. let b = none v.tier h in omega arith) in
    record {
      phase = a.0;
      arrived = a.1;
      shares = λ qs u. ap (λ x. errand_parties qs x u) q;
      lates = λ qs u. ap (λ x. errand_late qs x u) q;
    }
done_by ps root ended v (Climbing t k) shape some q ok fit none = absurd (let a = none t fit.1 in let b = only_here t 1 in omega arith)
done_by ps root ended v (Opening tier claimed Joined size) shape some q ok fit none =
    absurd (let a = none (ancestor ps tier claimed) (ancestor_within ps tier claimed shape fit.0.place) in
    let b = only_here (ancestor ps tier claimed) 1 in omega arith)
done_by ps root ended v (Opening tier claimed Seeking size) shape some q ok fit none =
    record {
      phase = λ h. absurd (let a = fit.1 in omega arith);
      arrived = (let a = fit.1 in let b = ok.within in omega arith);
      shares = λ qs u. ap (λ x. errand_parties qs x u) q;
      lates = λ qs u. ap (λ x. errand_late qs x u) q;
    }
done_by ps root ended v (Opening tier claimed GoingBack size) shape some q ok fit none =
    record {
      phase = λ h. absurd (let a = fit.1 in omega arith);
      arrived = (let a = fit.1 in let b = ok.within in omega arith);
      shares = λ qs u. ap (λ x. errand_parties qs x u) q;
      lates = λ qs u. ap (λ x. errand_late qs x u) q;
    }

pub is_done : (ps : List ℕ) (root : ℕ) (ended : Bool) (v : View) → IsShape ps → 0 < length ps → ViewFits ps root ended v
    → ((t : ℕ) → t < length ps → late_share root ps t v ≡ 0) → IsDone root v
is_done ps root ended v shape some ok none = done_by ps root ended v v.errand shape some refl ok ok.errand none

none_absent : (root : ℕ) (v : View) → v.size ≡ 0 → v.arrived ≡ v.size → absent root v ≡ v.size
none_absent root v z e = grind arith

-- in the next_phase_of phase the token's late share is its party share
done_shares : (ps : List ℕ) (root after : ℕ) (u : ℕ) (v : View) → root ≢ after → IsDone root v
    → late_share after ps u v ≡ party_share ps u v
done_shares ps root after u v n d =
    let absent_all : absent after v ≡ v.size = ⊎_elim
    (λ (z : v.size ≡ 0). (let a = d.arrived in none_absent after v z a))
    (λ (h : v.size ≢ 0). ap (λ b. cond b (v.size - v.arrived) v.size) (ne_eqb v.phase after (λ e. n (sym (d.phase (omega arith)) ∙ e))))
    (cases_eq v.size 0) in
    ap (λ k. cond (is_hidden v.errand) 0 (only_at v.tier k u) + errand_late ps v.errand u) absent_all
    ∙ ap (λ k. cond (is_hidden v.errand) 0 (only_at v.tier v.size u) + k) (d.lates ps u ∙ sym (d.shares ps u))

-- the errand of a token that is done and doesn't advance fits any phase
done_errand : (ps : List ℕ) (root after : ℕ) (v : View) (e : Errand) → v.errand ≡ e → IsDone root v → advance_share v ≡ 0
    → ErrandFits ps root v e → ErrandFits ps after v e
done_errand ps root after v Rest q d a ok = tt
done_errand ps root after v Advancing q d a ok = absurd (let b : 1 ≡ 0 = sym (ap errand_advances q) ∙ a in omega arith)
done_errand ps root after v (Climbing t k) q d a ok =
    absurd (let b : only_at t 1 t ≡ 0 = sym (ap (λ x. errand_late ps x t) q) ∙ d.lates ps t in let c = only_here t 1 in omega arith)
done_errand ps root after v (Opening tier claimed Joined size) q d a ok =
    absurd (let b : only_at (ancestor ps tier claimed) 1 (ancestor ps tier claimed) ≡ 0 =
    sym (ap (λ x. errand_late ps x (ancestor ps tier claimed)) q) ∙ d.lates ps (ancestor ps tier claimed) in
    let e = only_here (ancestor ps tier claimed) 1 in omega arith)
done_errand ps root after v (Opening tier claimed Seeking size) q d a ok = ok
done_errand ps root after v (Opening tier claimed GoingBack size) q d a ok = ok

pub done_ok : (ps : List ℕ) (root after : ℕ) (ended : Bool) (v : View) → next_phase_of root ≡ after → IsDone root v → advance_share v ≡ 0
    → ViewFits ps root false v → ViewFits ps after ended v
done_ok ps root after ended v e d a ok = record {
  within = ok.within;
  few = ok.few;
  placed = ok.placed;
  current = λ h. inr (ap next_phase_of (d.phase h) ∙ e, d.arrived);
  seen = λ p q. absurd (let b : false ≡ true = (ok.seen p q).0 in cc);
  errand = done_errand ps root after v v.errand refl d a ok.errand;
}

-- the token that advances
advanced_done : (root : ℕ) (v : View) → v.errand ≡ Advancing → IsDone root v → IsDone root (advanced_view v)
advanced_done root v e d = record { phase = d.phase; arrived = d.arrived; shares = λ _ _. refl; lates = λ _ _. refl }

advanced_ok : (ps : List ℕ) (root : ℕ) (v : View) → ViewFits ps root false v → ViewFits ps root false (advanced_view v)
advanced_ok ps root v ok =
    record { within = ok.within; few = ok.few; placed = ok.placed; current = ok.current; seen = ok.seen; errand = tt }

late_next : (root after : ℕ) (w : Fields) → root ≢ after → late root w ≡ 0 → KeepsUp root w → late after w ≡ w.parties
late_next root after w n z up = ⊎_elim
    (λ (e : w.parties ≡ 0). ap (λ b. cond b 0 (cond (eqb w.phase after) w.unarrived w.parties)) (eq-eqb w.parties 0 e) ∙ sym e)
    (λ (h : w.parties ≢ 0).
    let off : w.phase ≡ root → late after w ≡ w.parties = λ e.
    ap (λ b. cond b 0 (cond (eqb w.phase after) w.unarrived w.parties)) (ne_eqb w.parties 0 h)
    ∙ ap (λ b. cond b w.unarrived w.parties) (ne_eqb w.phase after (λ q. n (sym e ∙ q))) in
    ⊎_elim off (λ e. ⊎_elim off
    (λ (k : w.phase ≢ root). absurd (let a : late root w ≡ w.parties = ap (λ b. cond b 0 (cond (eqb w.phase root) w.unarrived w.parties))
    (ne_eqb w.parties 0 h) ∙ ap (λ b. cond b w.unarrived w.parties) (ne_eqb w.phase root k) in omega arith))
    (cases_eq w.phase root)) (up (omega arith)))
    (cases_eq w.parties 0)

late_advanced : (w : Fields) (e : Bool) → late (next_phase_of w.phase) (advanced w e) ≡ w.parties
late_advanced w e = grind arith

-- a word that counted nobody late is in the phase before
behind_up : (root after : ℕ) (w : Fields) → next_phase_of root ≡ after → late root w ≡ 0 → KeepsUp root w → KeepsUp after w
behind_up root after w e z up h = ⊎_elim
    (λ (p : w.phase ≡ root). inr (
      ap next_phase_of p ∙ e,
      (let a : late root w ≡ w.unarrived = ap (λ b. cond b 0 (cond (eqb w.phase root) w.unarrived w.parties)) (ne_eqb w.parties 0
          (omega arith)) ∙ ap (λ b. cond b w.unarrived w.parties) (eq-eqb w.phase root p) in omega arith),
    ))
    (λ (p : w.phase ≢ root). absurd (let a : late root w ≡ w.parties = ap (λ b. cond b 0 (cond (eqb w.phase root) w.unarrived w.parties))
    (ne_eqb w.parties 0 (omega arith)) ∙ ap (λ b. cond b w.unarrived w.parties) (ne_eqb w.phase root p) in omega arith))
    (cases_eq w.phase root)

same_party : (ps : List ℕ) (u : ℕ) (v : View) → v.errand ≡ Advancing → party_share ps u (advanced_view v) ≡ party_share ps u v
same_party ps u v e = sym (ap (λ x. cond (is_hidden x) 0 (only_at v.tier v.size u) + errand_parties ps x u) e)

pub zero_field : (n : ℕ) → 0 < is_zero n → n ≡ 0
zero_field n h = grind arith

pub zero_one : (n : ℕ) → n ≡ 0 → is_zero n ≡ 1
zero_one n e = grind arith

advanced_waits : (w : Fields) (e : Bool) → is_zero (advanced w e).unarrived ≡ 0
advanced_waits w e = grind arith

advanced_not_opened : (w : Fields) (e : Bool) → is_being_opened (advanced w e) ≡ false
advanced_not_opened w e = grind arith

pub advance_tallies : (ps : List ℕ) (ws : List Fields) (front back : List View) (v : View) (ends : Bool) → IsShape ps
    → Tallies ps ws (front ++ v ∷ back) → CanAdvance (word_at ws 0) v
    → Tallies ps (set ws 0 (advanced (word_at ws 0) ends)) (front ++ advanced_view v ∷ back)
advance_tallies ps ws front back v ends shape tally can =
    let w : Fields = word_at ws 0 in
    let w' : Fields = advanced (word_at ws 0) ends in
    let ws' : List Fields = set ws 0 (advanced (word_at ws 0) ends) in
    let root : ℕ = root_phase ws in
    let after : ℕ = next_phase_of (root_phase ws) in
    let one : is_zero (word_at ws 0).unarrived ≡ sum_by advance_share (front ++ v ∷ back) = tally.advances can.going in
    let mine : advance_share v ≡ 1 = ap errand_advances can.errand in
    let none : (word_at ws 0).unarrived ≡ 0 =
    zero_field (word_at ws 0).unarrived (let a = share_fits advance_share front back v in omega arith) in
    let others : sum_by advance_share (front ++ advanced_view v ∷ back) ≡ 0 =
    (let a = sum_changes advance_share front back v (advanced_view v) in let b = zero_one (word_at ws 0).unarrived none in omega arith) in
    let arrived : AllArrived ps ws (front ++ v ∷ back) = all_arrived ps ws (front ++ v ∷ back) shape tally can.going none in
    let some : 0 < length ps = subst (λ (k : ℕ). 0 < k) tally.long tally.some in
    let root_legal = tally.legal 0 tally.some in
    let differs : root_phase ws ≢ next_phase_of (root_phase ws) = λ e. next_differs (root_phase ws) root_legal.phase (sym e) in
    let fits : AllByRecursion (ViewFits ps (root_phase ws) false) (front ++ v ∷ back) =
    subst (λ (b : Bool). AllByRecursion (ViewFits ps (root_phase ws) b) (front ++ v ∷ back)) can.going tally.fits in
    let done : AllByRecursion (λ x. IsDone (root_phase ws) x × ViewFits ps (root_phase ws) false x) (front ++ v ∷ back) =
    all_map (λ x. ViewFits ps (root_phase ws) false x × ((t : ℕ) → t < length ps → late_share (root_phase ws) ps t x ≡ 0))
    (λ x. IsDone (root_phase ws) x × ViewFits ps (root_phase ws) false x)
    (λ x h. (is_done ps (root_phase ws) false x shape some h.0 h.1, h.0)) (front ++ v ∷ back)
    (both (ViewFits ps (root_phase ws) false) (λ x. (t : ℕ) → t < length ps → late_share (root_phase ws) ps t x ≡ 0)
    (front ++ v ∷ back) fits arrived.tokens) in
    let here = all_here (λ x. IsDone (root_phase ws) x × ViewFits ps (root_phase ws) false x) front back v done in
    let done' : AllByRecursion (λ x. IsDone (root_phase ws) x × ViewFits ps (root_phase ws) false x) (front ++ advanced_view v ∷ back) =
    all_around (λ x. IsDone (root_phase ws) x × ViewFits ps (root_phase ws) false x) front back v (advanced_view v) done
    (advanced_done (root_phase ws) v can.errand here.0, advanced_ok ps (root_phase ws) v here.1) in
    let all : AllByRecursion (λ x. (IsDone (root_phase ws) x × ViewFits ps (root_phase ws) false x) × (advance_share x ≡ 0))
    (front ++ advanced_view v ∷ back) =
    both (λ x. IsDone (root_phase ws) x × ViewFits ps (root_phase ws) false x) (λ x. advance_share x ≡ 0)
    (front ++ advanced_view v ∷ back) done' (zero_each advance_share (front ++ advanced_view v ∷ back) others) in
    let now : word_at ws' 0 ≡ w' = get_or-set_same ws 0 w' blank tally.some in
    let phase_now : root_phase ws' ≡ after = ap (λ (x : Fields). x.phase) now in
    let still : (u : ℕ) → Compared ws' u → Compared ws u = λ u h z. can.going in
    let parties : Balances (λ x. x.parties) (party_share ps) ps ws' (front ++ advanced_view v ∷ back) =
    balance_kept (λ x. x.parties) (party_share ps) ps ws front back v (advanced_view v) 0 w' shape tally.long tally.some still tally.parties
    (λ _. ap (λ k. (word_at ws 0).parties + k) (sym (same_party ps 0 v can.errand)))
    (λ u n. ap (λ k. k + 0) (same_party ps u v can.errand)) in
    let lates : (t : ℕ) → t < length ws' → late after (word_at ws' t) ≡ (word_at ws' t).parties =
    at_each ws 0 w' (λ t x. late after x ≡ x.parties) tally.some (late_advanced (word_at ws 0) ends)
    (λ t h n. late_next (root_phase ws) after (word_at ws t) differs (arrived.tiers t h) (tally.phases t h)) in
    record {
      long = length-set ws 0 w' ∙ tally.long;
      some = subst (λ (n : ℕ). 0 < n) (sym (length-set ws 0 w')) tally.some;
      legal = at_each ws 0 w' (λ u x. IsLegal x) tally.some (advanced_legal (word_at ws 0) ends root_legal) (λ u h n. tally.legal u h);
      ends = λ u below h. at_each ws 0 w' (λ k x. 0 < k → x.ended ≡ false) tally.some
          (λ k. absurd (omega arith)) (λ k h n z. tally.ends k z h) u h below;
      parties = parties;
      unarrived = subst (λ (r : ℕ). Balances (late r) (late_share r ps) ps ws' (front ++ advanced_view v ∷ back)) (sym phase_now)
          (λ t h c.
          let a = lates t h in let b = parties t h c in
          let d : sum_by (late_share after ps t) (front ++ advanced_view v ∷ back)
          ≡ sum_by (party_share ps t) (front ++ advanced_view v ∷ back) =
          sum_same (late_share after ps t) (party_share ps t) (front ++ advanced_view v ∷ back)
          (all_map (λ x. IsDone (root_phase ws) x × ViewFits ps (root_phase ws) false x)
          (λ x. late_share after ps t x ≡ party_share ps t x) (λ x k. done_shares ps (root_phase ws) after t x differs k.0)
          (front ++ advanced_view v ∷ back) done') in
          let e : children (late after) t ps ws' ≡ children (λ x. x.parties) t ps ws' =
          children_same (late after) (λ x. x.parties) t ps ws' (λ i _ k. lates i k) in
          omega arith);
      claims = at_each ws 0 w' (λ u x. bit (is_being_opened x) ≡ sum_by (claim_share ps u) (front ++ advanced_view v ∷ back)) tally.some
          (let a = tally.claims 0 tally.some in let b = sum_changes (claim_share ps 0) front back v (advanced_view v) in
          let c : claim_share ps 0 v ≡ 0 = ap (errand_claims ps 0) can.errand in
          let d : bit (is_being_opened (word_at ws 0)) ≡ 0 = ap (λ (x : Bool). cond {A = ℕ} x 1 0) tally.root_claims in
          let e : bit (is_being_opened w') ≡ 0 = ap (λ (x : Bool). cond {A = ℕ} x 1 0) (advanced_not_opened (word_at ws 0) ends) in
          omega arith)
          (λ u h n. let a = tally.claims u h in let b = sum_changes (claim_share ps u) front back v (advanced_view v) in
          let c : claim_share ps u v ≡ 0 = ap (errand_claims ps u) can.errand in omega arith);
      root_claims = ap is_being_opened now ∙ advanced_not_opened (word_at ws 0) ends;
      phases = subst (λ (r : ℕ). (u : ℕ) → u < length ws' → KeepsUp r (word_at ws' u)) (sym phase_now)
          (at_each ws 0 w' (λ u x. KeepsUp after x) tally.some (λ _. inl refl)
          (λ u h n. behind_up (root_phase ws) after (word_at ws u) refl (arrived.tiers u h) (tally.phases u h)));
      advances = λ _. ap (λ (x : Fields). is_zero x.unarrived) now ∙ (advanced_waits (word_at ws 0) ends ∙ sym others);
      fits = subst (λ (r : ℕ). AllByRecursion (ViewFits ps r (word_at ws' 0).ended) (front ++ advanced_view v ∷ back)) (sym phase_now)
          (all_map (λ x. (IsDone (root_phase ws) x × ViewFits ps (root_phase ws) false x) × (advance_share x ≡ 0))
          (ViewFits ps after (word_at ws' 0).ended)
          (λ x k. done_ok ps (root_phase ws) after (word_at ws' 0).ended x refl k.0.0 k.1 k.0.1) (front ++ advanced_view v ∷ back) all);
    }
