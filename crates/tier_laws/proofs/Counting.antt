-- What the flat phaser counts of one token, and what a look at the root makes of it.
use Rattle.std.proofs.Common.{◌≡◌, ◌≢◌, ℕ, zero, suc, ◌+◌, ◌<◌, ◌≤◌, Bool, true, false, cond, eqb, List, [], ◌∷◌, length, get_or, refl, ◌∙◌, ap, arith, None, Some}
use Rattle.std.specs.Prelude.{count_by, ◌&&◌}
use Rattle.std.specs.List.{AllByRecursion}
use Rattle.std.proofs.lemmas.Bool.{eq-eqb, ne_eqb, eqb-true, eqb-false}
use Rattle.phaser_word.specs.Fields.{Fields}
use Rattle.flat_phaser.specs.declared.Member.{Member}
use Rattle.flat_phaser.specs.Flat.{is_owned, has_arrived, members_of, arrived_of}
use Rattle.flat_phaser.proofs.Counts.{count_append}
use Rattle.tier_steps.specs.declared.view.View.{View}
use Rattle.tier_steps.specs.View.{new_view}
use Rattle.tier_steps.specs.Tally.{word_at, root_phase, ViewFits}
use Rattle.tier_steps.specs.Step.{looked, moved, dropped, is_going_back}
use Rattle.tier_steps.specs.Image.{token_members, all_members}
use Rattle.tier_steps.proofs.Keeping.{all_map}
use Rattle.tier_steps.proofs.Members.{token_counts, token_arrived}
use Rattle.tier_core.specs.Machine.{State, IsCore, view_at}
use Rattle.tier_core.proofs.Turns.{by_test, not_both}
use Rattle.tier_laws.specs.Frame.{flat_of}

-- a test of members that counts this many of each token's members
abbrev CountsOwn : (Member → Bool) → (View → ℕ) → ℕ → Type 0
CountsOwn test f u = (i : ℕ) (v : View) → v.arrived ≤ v.size → count_by test (token_members i v) ≡ cond {A = ℕ} (eqb i u) (f v) 0

none_before : (test : Member → Bool) (f : View → ℕ) (u o : ℕ) (vs : List View) → CountsOwn test f u
    → AllByRecursion (λ v. v.arrived ≤ v.size) vs → u < o → count_by test (all_members o vs) ≡ 0
none_before test f u o [] each all h = refl
none_before test f u o (v ∷ vs) each all h =
    let a = count_append test (token_members o v) (all_members (suc o) vs) in
    let b = each o v all.0 in
    let c : cond {A = ℕ} (eqb o u) (f v) 0 ≡ 0 = ap (λ x. cond {A = ℕ} x (f v) 0) (ne_eqb o u (omega arith)) in
    let d = none_before test f u (suc o) vs each all.1 (omega arith) in omega arith

counts_at : (test : Member → Bool) (f : View → ℕ) (u o : ℕ) (vs : List View) (i : ℕ) → CountsOwn test f u
    → AllByRecursion (λ v. v.arrived ≤ v.size) vs → i < length vs → u ≡ o + i
    → count_by test (all_members o vs) ≡ f (get_or vs i (new_view 0))
counts_at test f u o [] i each all h e = absurd (omega arith)
counts_at test f u o (v ∷ vs) zero each all h e =
    let a = count_append test (token_members o v) (all_members (suc o) vs) in
    let b = each o v all.0 in
    let c : cond {A = ℕ} (eqb o u) (f v) 0 ≡ f v = ap (λ x. cond {A = ℕ} x (f v) 0) (eq-eqb o u (omega arith)) in
    let d = none_before test f u (suc o) vs each all.1 (omega arith) in omega arith
counts_at test f u o (v ∷ vs) (suc i) each all h e =
    let a = count_append test (token_members o v) (all_members (suc o) vs) in
    let b = each o v all.0 in
    let c : cond {A = ℕ} (eqb o u) (f v) 0 ≡ 0 = ap (λ x. cond {A = ℕ} x (f v) 0) (ne_eqb o u (omega arith)) in
    let d = counts_at test f u (suc o) vs i each all.1 (omega arith) (omega arith) in omega arith

counted_views : (s : State) → IsCore s → AllByRecursion (λ v. v.arrived ≤ v.size) s.views
counted_views s core = all_map (ViewFits s.parents (root_phase s.words) (word_at s.words 0).ended) (λ v. v.arrived ≤ v.size)
    (λ v ok. ok.within) s.views core.tally.fits

pub members_owned : (s : State) (i : ℕ) → IsCore s → i < length s.views → members_of i (flat_of s).members ≡ (view_at s.views i).size
members_owned s i core h =
    counts_at (is_owned i) (λ v. v.size) i 0 s.views i (λ o v k. token_counts i o v k) (counted_views s core) h (omega arith)

pub arrived_owned : (s : State) (i p : ℕ) → IsCore s → i < length s.views
    → arrived_of p i (flat_of s).members ≡ cond {A = ℕ} (eqb (view_at s.views i).phase p) (view_at s.views i).arrived 0
arrived_owned s i p core h =
    counts_at (λ m. is_owned i m && has_arrived p m) (λ v. cond {A = ℕ} (eqb v.phase p) v.arrived 0) i 0 s.views i
    (λ o v k. token_arrived p i o v) (counted_views s core) h (omega arith)

-- those that have arrived in the token's phase
pub arrived_own : (s : State) (i : ℕ) → IsCore s → i < length s.views
    → arrived_of (view_at s.views i).phase i (flat_of s).members ≡ (view_at s.views i).arrived
arrived_own s i core h =
    arrived_owned s i (view_at s.views i).phase core h
    ∙ ap (λ x. cond {A = ℕ} x (view_at s.views i).arrived 0) (eq-eqb (view_at s.views i).phase (view_at s.views i).phase refl)

-- phase and arrivals after a look: a token whose members have all arrived in another phase goes on, and any other stays
moved_is : (P : ℕ → ℕ → Type 0) (w : Fields) (v : View) → (v.arrived ≡ v.size → v.phase ≢ w.phase → P w.phase 0)
    → ((v.arrived ≡ v.size → v.phase ≡ w.phase) → P v.phase v.arrived) → P (moved w v).phase (moved w v).arrived
moved_is P w v goes stays =
    let next : View = record v { phase = w.phase; arrived = 0 } in
    let Q : View → Type 0 = λ x. P x.phase x.arrived in
    by_test (λ b. Q (cond b (cond (eqb v.phase w.phase) v next) v)) (eqb v.arrived v.size)
    (λ a. by_test (λ b. Q (cond b v next)) (eqb v.phase w.phase) (λ e. stays (λ _. eqb-true v.phase w.phase e))
    (λ e. goes (eqb-true v.arrived v.size a) (eqb-false v.phase w.phase e)))
    (λ a. stays (λ q. absurd (eqb-false v.arrived v.size a q)))

pub looked_is : (P : ℕ → ℕ → Type 0) (w : Fields) (v : View) → w.ended ≡ false → (v.arrived ≡ v.size → v.phase ≢ w.phase → P w.phase 0)
    → ((v.arrived ≡ v.size → v.phase ≡ w.phase) → P v.phase v.arrived) → P (looked w v).phase (looked w v).arrived
looked_is P w v going goes stays =
    let u : View = record v { led = false; note = cond (is_going_back v.errand) v.note None } in
    by_test (λ b. b ≡ false → P (cond b (record u { end_seen = Some w.phase; errand = dropped v.errand }) (moved w u)).phase
    (cond b (record u { end_seen = Some w.phase; errand = dropped v.errand }) (moved w u)).arrived) w.ended
    (λ _ e. not_both true refl e) (λ _ _. moved_is P w u goes stays) going

-- a token without members is in the root's phase after a look
pub looked_empty : (w : Fields) (v : View) → w.ended ≡ false → v.arrived ≡ v.size → (looked w v).phase ≡ w.phase
looked_empty w v going all = looked_is (λ p a. p ≡ w.phase) w v going (λ _ _. refl) (λ e. e all)
