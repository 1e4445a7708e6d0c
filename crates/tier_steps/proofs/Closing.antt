-- The Advance of the root is the flat Advance, and each kind of step is the flat step of its label.
use Rattle.std.proofs.Common.{◌≡◌, ◌≢◌, ℕ, zero, suc, ◌<◌, ◌≤◌, ⊎_elim, Bool, true, false, cond, eqb, List, [], ◌∷◌, ◌++◌, length, set, length-set, refl, sym, ◌∙◌, ap, subst, arith}
use Rattle.std.specs.Prelude.{sum_by, ◌&&◌}
use Rattle.std.specs.List.{AllByRecursion}
use Rattle.std.proofs.lemmas.List.{get_or-set_same, get_or-set_other}
use Rattle.std.proofs.lemmas.Bool.{cases_eq, eq-eqb}
use Rattle.tier_steps.specs.Word.{Fields, IsLegal, next_phase_of, late}
use Rattle.tier_steps.specs.View.{View, Errand, Rest, Opening, Climbing, Advancing, Passage, parent_of, only_at, errand_late, late_share, errand_advances, advance_share}
use Rattle.tier_steps.specs.Tally.{IsShape, blank, word_at, root_phase, ViewFits, is_zero, Tallies}
use Rattle.tier_steps.specs.Step.{passed, owed, CanAdvance, advanced_view}
use Rattle.tier_steps.proofs.Parts.{AlikeParts}
use Rattle.tier_steps.proofs.Members.{token_counts, token_arrived}
use Rattle.tier_steps.proofs.Keeping.{all_here, all_map, all_around}
pub use Rattle.tier_steps.proofs.Passing.{phase_passed, ended_passed}
use Rattle.tier_steps.proofs.Pass.{share_fits, only_here}
use Rattle.tier_steps.proofs.Balance.{sum_changes}
use Rattle.tier_steps.proofs.Chains.{zero_each, both}
use Rattle.tier_steps.proofs.Advance.{AllArrived, all_arrived, is_done, IsDone, zero_field, zero_one, next_differs}
use Rattle.tier_steps.proofs.Due.{all_still, passed_rests}
use Rattle.tier_steps.proofs.KindLaw.{ended_same}
use Rattle.tier_steps.proofs.Label.{members_change, arrived_change, here, due_is}
use Rattle.flat_phaser.specs.declared.FlatStep.TheVariants as flat
use Rattle.flat_phaser.specs.declared.FlatStep.{FlatStep}
use Rattle.flat_phaser.specs.Flat.{Flat, has_arrived, is_owned, members_of, arrived_of, everyone_arrived}
use Rattle.flat_phaser.specs.Step.{taken, flat_step}
use Rattle.flat_phaser.proofs.Counts.{count_append}
use Rattle.flat_phaser.proofs.Everyone.{either, everyone_from, same_everyone, none_arrived}
use Rattle.tier_steps.specs.Image.{token_members, all_members, is_climbing, some_climbing, image}

-- what an Advance finds: everyone has arrived, someone advances, and nobody climbs or advances afterwards
pub record Ready (root : ℕ) (front back : List View) (v : View) : Type 0 where
  pub everyone : everyone_arrived root (all_members 0 (front ++ v ∷ back)) ≡ true
  pub someone : some_climbing (front ++ v ∷ back) ≡ true
  pub nobody : some_climbing (front ++ advanced_view v ∷ back) ≡ false

or_true : (a b : Bool) → b ≡ true → cond a true b ≡ true
or_true true b e = refl
or_true false b e = e

and_no : (a : Bool) → a && false ≡ false
and_no true = refl
and_no false = refl

none_at : (b : Bool) (n : ℕ) → n ≡ 0 → cond {A = ℕ} b n 0 ≡ 0
none_at true n e = e
none_at false n e = refl

pub some_here : (front back : List View) (v : View) → is_climbing v.errand ≡ true → some_climbing (front ++ v ∷ back) ≡ true
some_here [] back v e = ap (λ b. cond b true (some_climbing back)) e
some_here (x ∷ front) back v e = or_true (is_climbing x.errand) (some_climbing (front ++ v ∷ back)) (some_here front back v e)

none_of : (vs : List View) → AllByRecursion (λ v. is_climbing v.errand ≡ false) vs → some_climbing vs ≡ false
none_of [] h = refl
none_of (v ∷ vs) h = ap (λ b. cond b true (some_climbing vs)) h.0 ∙ none_of vs h.1

done_counts : (p o : ℕ) (vs : List View) → AllByRecursion (λ v. (v.arrived ≤ v.size) × (v.size ≡ here p v)) vs → (u : ℕ)
    → members_of u (all_members o vs) ≤ arrived_of p u (all_members o vs)
done_counts p o [] h u = omega arith
done_counts p o (v ∷ vs) h u =
    let a = count_append (is_owned u) (token_members o v) (all_members (suc o) vs) in
    let b = count_append (λ x. is_owned u x && has_arrived p x) (token_members o v) (all_members (suc o) vs) in
    let c = token_counts u o v h.0.0 in let d = token_arrived p u o v in
    let e : cond {A = ℕ} (eqb o u) v.size 0 ≡ cond {A = ℕ} (eqb o u) (here p v) 0 = ap (λ k. cond {A = ℕ} (eqb o u) k 0) h.0.1 in
    let f = done_counts p (suc o) vs h.1 u in omega arith

done_here : (p : ℕ) (v : View) → IsDone p v → v.size ≡ here p v
done_here p v d = ⊎_elim
    (λ (z : v.size ≡ 0). (let a = d.arrived in z ∙ sym (none_at (eqb v.phase p) v.arrived (omega arith))))
    (λ (h : v.size ≢ 0). (let a : here p v ≡ v.arrived = ap (λ b. cond {A = ℕ} b v.arrived 0) (eq-eqb v.phase p (d.phase (omega arith))) in
    let b = d.arrived in omega arith))
    (cases_eq v.size 0)

done_still : (ps : List ℕ) (p : ℕ) (v : View) (e : Errand) → v.errand ≡ e → IsDone p v → advance_share v ≡ 0 → is_climbing e ≡ false
done_still ps p v Rest q d a = refl
done_still ps p v Advancing q d a = absurd (let b : 1 ≡ 0 = sym (ap errand_advances q) ∙ a in omega arith)
done_still ps p v (Climbing t k) q d a = absurd (let b : only_at t 1 t ≡ 0 = sym (ap (λ x. errand_late ps x t) q) ∙ d.lates ps t in let c =
    only_here t 1 in omega arith)
done_still ps p v (Opening tier claimed stage size) q d a = refl

pub ready : (ps : List ℕ) (ws : List Fields) (front back : List View) (v : View) → IsShape ps → Tallies ps ws (front ++ v ∷ back)
    → CanAdvance (word_at ws 0) v → Ready (root_phase ws) front back v
ready ps ws front back v shape tally can =
    let one : is_zero (word_at ws 0).unarrived ≡ sum_by advance_share (front ++ v ∷ back) = tally.advances can.going in
    let mine : advance_share v ≡ 1 = ap errand_advances can.errand in
    let none : (word_at ws 0).unarrived ≡ 0 =
    zero_field (word_at ws 0).unarrived (let a = share_fits advance_share front back v in omega arith) in
    let others : sum_by advance_share (front ++ advanced_view v ∷ back) ≡ 0 =
    (let a = sum_changes advance_share front back v (advanced_view v) in let b = zero_one (word_at ws 0).unarrived none in omega arith) in
    let arrived : AllArrived ps ws (front ++ v ∷ back) = all_arrived ps ws (front ++ v ∷ back) shape tally can.going none in
    let some : 0 < length ps = subst (λ (k : ℕ). 0 < k) tally.long tally.some in
    let done : AllByRecursion (λ x. IsDone (root_phase ws) x × (x.arrived ≤ x.size)) (front ++ v ∷ back) =
    all_map (λ x. ViewFits ps (root_phase ws) (word_at ws 0).ended x × ((t : ℕ) → t < length ps → late_share (root_phase ws) ps t x ≡ 0))
    (λ x. IsDone (root_phase ws) x × (x.arrived ≤ x.size))
    (λ x h. (is_done ps (root_phase ws) (word_at ws 0).ended x shape some h.0 h.1, h.0.within)) (front ++ v ∷ back)
    (both (ViewFits ps (root_phase ws) (word_at ws 0).ended) (λ x. (t : ℕ) → t < length ps → late_share (root_phase ws) ps t x ≡ 0)
    (front ++ v ∷ back) tally.fits arrived.tokens) in
    let here_ = all_here (λ x. IsDone (root_phase ws) x × (x.arrived ≤ x.size)) front back v done in
    let done' : AllByRecursion (λ x. IsDone (root_phase ws) x × (x.arrived ≤ x.size)) (front ++ advanced_view v ∷ back) =
    all_around (λ x. IsDone (root_phase ws) x × (x.arrived ≤ x.size)) front back v (advanced_view v) done
    (record { phase = here_.0.phase; arrived = here_.0.arrived; shares = λ _ _. refl; lates = λ _ _. refl }, here_.1) in
    record {
      everyone = everyone_from (root_phase ws) (all_members 0 (front ++ v ∷ back)) (done_counts (root_phase ws) 0 (front ++ v ∷ back)
          (all_map (λ x. IsDone (root_phase ws) x × (x.arrived ≤ x.size)) (λ x. (x.arrived ≤ x.size) × (x.size ≡ here (root_phase ws) x))
          (λ x d. (d.1, done_here (root_phase ws) x d.0)) (front ++ v ∷ back) done));
      someone = some_here front back v (ap is_climbing can.errand);
      nobody = none_of (front ++ advanced_view v ∷ back)
          (all_map (λ x. (IsDone (root_phase ws) x × (x.arrived ≤ x.size)) × (advance_share x ≡ 0)) (λ x. is_climbing x.errand ≡ false)
          (λ x d. done_still ps (root_phase ws) x x.errand refl d.0.0 d.1) (front ++ advanced_view v ∷ back)
          (both (λ x. IsDone (root_phase ws) x × (x.arrived ≤ x.size)) (λ x. advance_share x ≡ 0) (front ++ advanced_view v ∷ back) done'
          (zero_each advance_share (front ++ advanced_view v ∷ back) others)));
    }

-- the image is due if a token advances
pub image_due : (ws : List Fields) (front back : List View) (v : View) → (word_at ws 0).ended ≡ false → Ready (root_phase ws) front back v
    → (image ws (front ++ v ∷ back)).due ≡ true
image_due ws front back v going r =
    due_is ws (front ++ v ∷ back) going ∙ (ap (λ b. b && some_climbing (front ++ v ∷ back)) r.everyone ∙ r.someone)

-- the next_phase_of phase begins for both alike
pub advance_label : (ws ws' : List Fields) (front back : List View) (v : View) (f : Flat) (ends : Bool)
    → AlikeParts f (image ws (front ++ v ∷ back)) → f.ended ≡ false → v.arrived ≤ v.size
    → root_phase ws ≤ 2147483647 → Ready (root_phase ws) front back v → root_phase ws' ≡ next_phase_of (root_phase ws)
    → (word_at ws' 0).ended ≡ ends
    → AlikeParts (taken (flat.Advance ends) f) (image ws' (front ++ advanced_view v ∷ back))
advance_label ws ws' front back v f ends alike going h legal r phase ended =
    let all_same : (u : ℕ) → arrived_of (root_phase ws) u (all_members 0 (front ++ advanced_view v ∷ back)) ≡ arrived_of (root_phase ws) u
    (all_members 0 (front ++ v ∷ back)) = λ u.
    (let a = arrived_change (root_phase ws) front back v (advanced_view v) u in omega arith) in
    let mem_same : (u : ℕ)
    → members_of u (all_members 0 (front ++ advanced_view v ∷ back)) ≡ members_of u (all_members 0 (front ++ v ∷ back)) =
    λ u.
    (let a = members_change front back v (advanced_view v) u h h in omega arith) in
    let here_ : everyone_arrived (root_phase ws) (all_members 0 (front ++ advanced_view v ∷ back)) ≡ true =
    same_everyone (root_phase ws) (all_members 0 (front ++ advanced_view v ∷ back))
    (all_members 0 (front ++ v ∷ back)) mem_same all_same ∙ r.everyone in
    let flat_arrived : (u : ℕ) → arrived_of (root_phase ws) u f.members ≡ arrived_of (root_phase ws) u (all_members 0 (front ++ v ∷ back)) =
    λ u.
    subst (λ (p : ℕ). arrived_of p u f.members ≡ arrived_of p u (all_members 0 (front ++ v ∷ back))) alike.phase (alike.arrived going u) in
    let there : everyone_arrived (root_phase ws) f.members ≡ true =
    same_everyone (root_phase ws) f.members (all_members 0 (front ++ v ∷ back)) (alike.members going) flat_arrived ∙ r.everyone in
    let differs : root_phase ws ≢ next_phase_of f.phase =
    λ e. next_differs (root_phase ws) legal (ap next_phase_of (sym alike.phase) ∙ sym e) in
    record {
      phase = ap next_phase_of alike.phase ∙ sym phase;
      ended = sym ended;
      due = λ e. sym (due_is ws' (front ++ advanced_view v ∷ back) (ended ∙ e)
          ∙ (ap (λ b. everyone_arrived (root_phase ws') (all_members 0 (front ++ advanced_view v ∷ back)) && b) r.nobody
          ∙ and_no (everyone_arrived (root_phase ws') (all_members 0 (front ++ advanced_view v ∷ back)))));
      members = λ e u. alike.members going u ∙ sym (mem_same u);
      arrived = λ e u. none_arrived (root_phase ws) (next_phase_of f.phase) f.members differs there u
          ∙ sym (none_arrived (root_phase ws) (next_phase_of f.phase) (all_members 0 (front ++ advanced_view v ∷ back)) differs here_ u);
    }

-- after the end only the phase and the end count
pub over : (ws ws' : List Fields) (vs vs' : List View) (f : Flat) → AlikeParts f (image ws vs) → f.ended ≡ true
    → root_phase ws' ≡ root_phase ws → (word_at ws' 0).ended ≡ true → AlikeParts f (image ws' vs')
over ws ws' vs vs' f alike e phase ended = record {
  phase = alike.phase ∙ sym phase;
  ended = e ∙ sym ended;
  due = λ z. absurd (let a : true ≡ false = sym e ∙ z in cc);
  members = λ z. absurd (let a : true ≡ false = sym e ∙ z in cc);
  arrived = λ z. absurd (let a : true ≡ false = sym e ∙ z in cc);
}

-- the label counts only if the flat phaser hasn't ended
pub by_end : (f : Flat) (s : FlatStep) (g : Flat) → (f.ended ≡ true → AlikeParts f g) → (f.ended ≡ false → AlikeParts (taken s f) g)
    → AlikeParts (flat_step s f) g
by_end f s g past going = ⊎_elim
    (λ (e : f.ended ≡ true). subst (λ (x : Flat). AlikeParts x g) (sym (ap (λ b. cond b f (taken s f)) e)) (past e))
    (λ (e : f.ended ≡ false). subst (λ (x : Flat). AlikeParts x g) (sym (ap (λ b. cond b f (taken s f)) e)) (going e))
    (either f.ended)

pub climb_same : (front back : List View) (v v' : View) → is_climbing v'.errand ≡ is_climbing v.errand
    → some_climbing (front ++ v' ∷ back) ≡ some_climbing (front ++ v ∷ back)
climb_same [] back v v' e = ap (λ b. cond b true (some_climbing back)) e
climb_same (x ∷ front) back v v' e = ap (λ b. cond (is_climbing x.errand) true b) (climb_same front back v v' e)

pub root_same : (ws : List Fields) (t : ℕ) (w' : Fields) → t < length ws → (t ≡ 0 → w'.phase ≡ (word_at ws t).phase)
    → root_phase (set ws t w') ≡ root_phase ws
root_same ws zero w' h e = ap (λ (x : Fields). x.phase) (get_or-set_same ws 0 w' blank h) ∙ e refl
root_same ws (suc t) w' h e = let other : 0 ≢ suc t = omega arith in
    ap (λ (x : Fields). x.phase) (get_or-set_other ws (suc t) 0 w' blank other)

or_none : (a b : Bool) → cond a true b ≡ false → (a ≡ false) × (b ≡ false)
or_none true b e = absurd (let f : true ≡ false = e in cc)
or_none false b e = (refl, e)

calm : (front back : List View) (v : View) → some_climbing (front ++ v ∷ back) ≡ false → is_climbing v.errand ≡ false
calm [] back v e = (or_none (is_climbing v.errand) (some_climbing back) e).0
calm (x ∷ front) back v e = calm front back v (or_none (is_climbing x.errand) (some_climbing (front ++ v ∷ back)) e).1

-- if everyone has arrived, a party that passes a tier leaves someone climbing
pub someone_after : (ps : List ℕ) (ws : List Fields) (front back : List View) (v' : View) (t : ℕ) (k : Passage) → IsShape ps → t < length ws
    → Tallies ps (set ws t (passed t k (word_at ws t))) (front ++ v' ∷ back)
    → (word_at ws 0).ended ≡ false → IsLegal (word_at ws t) → (word_at ws t).phase ≡ root_phase ws
    → (0 < (word_at ws t).parties) × (0 < (word_at ws t).unarrived) → v'.errand ≡ owed (parent_of ps t) t k (word_at ws t)
    → everyone_arrived (root_phase (set ws t (passed t k (word_at ws t)))) (all_members 0 (front ++ v' ∷ back)) ≡ true
    → some_climbing (front ++ v' ∷ back) ≡ true
someone_after ps ws front back v' t k shape h tally going legal phase waits errand everyone =
    let ws' : List Fields = set ws t (passed t k (word_at ws t)) in
    let root : root_phase ws' ≡ root_phase ws = root_same ws t (passed t k (word_at ws t)) h (λ _. phase_passed t k (word_at ws t)) in
    let going' : (word_at ws' 0).ended ≡ false = ended_same ws t (passed t k (word_at ws t)) h (ended_passed t k (word_at ws t)) ∙ going in
    let h' : t < length ws' = subst (λ (n : ℕ). t < n) (sym (length-set ws t (passed t k (word_at ws t)))) h in
    ⊎_elim (λ e. e)
    (λ (none : some_climbing (front ++ v' ∷ back) ≡ false). absurd
    (let a : late (root_phase ws') (word_at ws' t) ≡ 0 = all_still ps ws' (front ++ v' ∷ back) shape tally going' everyone none t h' in
    let b : word_at ws' t ≡ passed t k (word_at ws t) = get_or-set_same ws t (passed t k (word_at ws t)) blank h in
    let c : late (root_phase ws) (passed t k (word_at ws t)) ≡ 0 =
    sym (ap (λ p. late p (word_at ws' t)) root ∙ ap (late (root_phase ws)) b) ∙ a in
    let still : is_climbing v'.errand ≡ false = calm front back v' none in
    let d = passed_rests ps (root_phase ws) t k (word_at ws t) legal phase waits.0 waits.1 (ap is_climbing (sym errand) ∙ still) in
    omega arith))
    (either (some_climbing (front ++ v' ∷ back)))
