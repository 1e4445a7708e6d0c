-- From one advance to the next.
use Rattle.std.proofs.Common.{◌≡◌, ◌≢◌, ℕ, suc, ◌-◌, ◌<◌, ⊎_elim, Bool, true, false, cond, eqb, List, length, take, drop, refl, sym, ◌∙◌, ap, subst, arith, Some, None}
use Rattle.std.specs.Prelude.{Option}
use Rattle.std.specs.List.{AllByRecursion}
use Rattle.std.proofs.lemmas.Bool.{cases_eq, eq-eqb, ne_eqb}
use Rattle.std.proofs.lemmas.List.{get_or-set_same}
use Rattle.phaser_word.specs.Phase.{next_phase_of}
use Rattle.flat_phaser.specs.declared.FlatStep.{FlatStep}
use Rattle.flat_phaser.specs.declared.FlatStep.TheVariants as flat
use Rattle.flat_phaser.specs.Flat.{Flat, everyone_arrived}
use Rattle.flat_phaser.specs.Step.{taken, flat_step}
use Rattle.flat_phaser.proofs.Everyone.{both_true, everyone_each}
use Rattle.tier_steps.specs.declared.view.View.{View}
use Rattle.tier_steps.specs.declared.kind.Kind.TheVariants.{Advance}
use Rattle.tier_steps.specs.View.{new_view, absent}
use Rattle.tier_steps.specs.Tally.{word_at, root_phase, ViewFits}
use Rattle.tier_steps.specs.Image.{all_members, some_climbing, label, labelled, LooksAlike}
use Rattle.tier_steps.specs.Laws.{stepped_view}
use Rattle.tier_steps.proofs.Advance.{IsDone, next_differs}
use Rattle.tier_steps.proofs.Keeping.{all_here}
use Rattle.tier_steps.proofs.Label.{due_is}
use Rattle.tier_core.specs.declared.call.Step.{Step}
use Rattle.tier_core.specs.declared.call.Step.TheVariants.{Finish}
use Rattle.tier_core.specs.declared.call.Turn.{Turn}
use Rattle.tier_core.specs.Machine.{State, IsCore, view_at, call_at, played}
use Rattle.tier_core.specs.Run.{IsStepOfCalls, after, finish_at, plan_ends, step_label}
use Rattle.tier_core.proofs.Turns.{not_both}
use Rattle.tier_core.proofs.Places.{around}
use Rattle.tier_core.proofs.Runs.{due_advances, step_moves}
use Rattle.tier_laws.specs.Frame.{flat_of}
use Rattle.tier_laws.specs.Plan.{flat_ends}
use Rattle.tier_laws.specs.Hold.{IsAwaited}
use Rattle.tier_laws.specs.Calls.{moves_root}
use Rattle.tier_laws.specs.Rounds.{AdvancesBeginThePhase, AwaitedTokensStay}
use Rattle.tier_laws.proofs.Ending.{alike_itself}
use Rattle.tier_laws.proofs.Framing.{others_stay}
use Rattle.tier_laws.proofs.Planning.{known_due, the_last_one_advances, advances_are_planned}
use Rattle.tier_laws.proofs.Holding.{each_done, fits_at}
use Rattle.tier_laws.proofs.Counting.{members_owned, arrived_owned}
use Rattle.tier_laws.proofs.Stepping.{only_advances_move}

-- the flat step that a step of a run is, from the image before it
moved : (s : State) (x : Step) → IsCore s → IsStepOfCalls x → LooksAlike (labelled (step_label s x) (flat_of s)) (flat_of (after s x))
moved s x core is = (step_moves s x (flat_of s) core is (alike_itself (flat_of s))).1

going_step : (f : Flat) (step : FlatStep) → f.ended ≡ false → flat_step step f ≡ taken step f
going_step f step going = ap (λ b. cond b f (taken step f)) going

-- a token whose members have all arrived in one phase is awaited in another
absent_next : (root next : ℕ) (v : View) → IsDone root v → root ≢ next → 0 < v.size → 0 < absent next v
absent_next root next v done other some =
    let a : absent next v ≡ v.size =
    ap (λ b. cond b (v.size - v.arrived) v.size) (ne_eqb v.phase next (λ e. other (sym (done.phase some) ∙ e))) in
    omega arith

pub advances_begin_the_phase : AdvancesBeginThePhase
advances_begin_the_phase s i core going may =
    let a = known_due s i may in
    let owes = due_advances s.parents (call_at s.calls i) (view_at s.views i) a.1 (core.calls i a.0) in
    let last = the_last_one_advances s i core going may in
    let ends : Bool = flat_ends s in
    let r : Turn = finish_at s i (plan_ends s) in
    let labelled_ : step_label s (Finish i) ≡ Some (flat.Advance (flat_ends s)) =
    ap (λ b. cond b (label i (finish_at s i (plan_ends s)).kind) None) may ∙ ap (label i) last.kind in
    let alike : LooksAlike (taken (flat.Advance (flat_ends s)) (flat_of s)) (flat_of (after s (Finish i))) =
    subst (λ (f : Flat). LooksAlike f (flat_of (after s (Finish i)))) (going_step (flat_of s) (flat.Advance (flat_ends s)) going)
    (subst (λ (l : Option FlatStep). LooksAlike (labelled l (flat_of s)) (flat_of (after s (Finish i)))) labelled_ (moved s (Finish i) core tt)) in
    let phase : (flat_of (after s (Finish i))).phase ≡ next_phase_of (root_phase s.words) = sym alike.phase in
    let differs : root_phase s.words ≢ next_phase_of (root_phase s.words) =
    λ e. next_differs (root_phase s.words) (core.tally.legal 0 core.tally.some).phase (sym e) in
    let here : after s (Finish i) ≡ played s i (finish_at s i (plan_ends s)) =
    ap (λ b. cond b (played s i (finish_at s i (plan_ends s))) s) may in
    let own : view_at (after s (Finish i)).views i ≡ stepped_view s.parents s.words (Advance (flat_ends s)) 0 (view_at s.views i) =
    ap (λ (x : State). view_at x.views i) here
    ∙ (get_or-set_same s.views i (stepped_view s.parents s.words r.kind r.tier (view_at s.views i)) (new_view 0) a.0
    ∙ ap (λ k. stepped_view s.parents s.words k 0 (view_at s.views i)) last.kind) in
    let done : (j : ℕ) → j < length s.views → IsDone (root_phase s.words) (view_at s.views j) = λ j h.
    (all_here (λ x. ViewFits s.parents (root_phase s.words) (word_at s.words 0).ended x × IsDone (root_phase s.words) x)
    (take j s.views) (drop (suc j) s.views) (view_at s.views j)
    (subst (λ (vs : List View). AllByRecursion (λ x. ViewFits s.parents (root_phase s.words) (word_at s.words 0).ended x × IsDone (root_phase s.words) x) vs)
    (around s.views j (new_view 0) h) (each_done s i core going a.0 owes))).1 in
    record {
      phase = phase;
      ended = sym alike.ended;
      awaited = λ j h some.
          let late : 0 < absent (next_phase_of (root_phase s.words)) (view_at s.views j) =
          absent_next (root_phase s.words) (next_phase_of (root_phase s.words)) (view_at s.views j) (done j h) differs some in
          subst (λ (p : ℕ). 0 < absent p (view_at (after s (Finish i)).views j)) (sym phase)
          (⊎_elim
          (λ (q : j ≡ i). subst (λ (n : ℕ). 0 < absent (next_phase_of (root_phase s.words)) (view_at (after s (Finish i)).views n)) (sym q)
          (subst (λ (x : View). 0 < absent (next_phase_of (root_phase s.words)) x) (sym own)
          (subst (λ (n : ℕ). 0 < absent (next_phase_of (root_phase s.words)) (view_at s.views n)) q late)))
          (λ (q : j ≢ i). subst (λ (x : View). 0 < absent (next_phase_of (root_phase s.words)) x) (sym (others_stay s (Finish i) j q).view) late)
          (cases_eq j i));
    }

-- if a token is awaited not everyone has arrived
not_everyone : (s : State) (i : ℕ) → IsCore s → (word_at s.words 0).ended ≡ false → IsAwaited s i → (flat_of s).due ≡ true → ⊥
not_everyone s i core going is due =
    let v : View = view_at s.views i in
    let root : ℕ = root_phase s.words in
    let everyone =
    both_true (everyone_arrived root (all_members 0 s.views)) (some_climbing s.views) (sym (due_is s.words s.views going) ∙ due) in
    let all = everyone_each root (all_members 0 s.views) everyone.0 i in
    let a = arrived_owned s i root core is.known in
    let b = members_owned s i core is.known in
    let some = is.some in
    let fit = fits_at s i core is.known in
    ⊎_elim
    (λ (e : v.phase ≡ root).
    let c : absent root v ≡ v.size - v.arrived = ap (λ x. cond x (v.size - v.arrived) v.size) (eq-eqb v.phase root e) in
    let d : cond {A = ℕ} (eqb v.phase root) v.arrived 0 ≡ v.arrived = ap (λ x. cond {A = ℕ} x v.arrived 0) (eq-eqb v.phase root e) in
    absurd (omega arith))
    (λ (n : v.phase ≢ root).
    let c : absent root v ≡ v.size = ap (λ x. cond x (v.size - v.arrived) v.size) (ne_eqb v.phase root n) in
    let d : cond {A = ℕ} (eqb v.phase root) v.arrived 0 ≡ 0 = ap (λ x. cond {A = ℕ} x v.arrived 0) (ne_eqb v.phase root n) in
    absurd (omega arith))
    (cases_eq v.phase root)

-- so no step moves the root but the end by force
quiet_label : (s : State) (x : Step) (i : ℕ) (l : Option FlatStep) → IsCore s → IsStepOfCalls x → (flat_of (after s x)).ended ≡ false
    → (flat_of s).ended ≡ false → IsAwaited s i → step_label s x ≡ l → moves_root l ≡ false
quiet_label s x i None core is after_going going awaited e = refl
quiet_label s x i (Some (flat.Join owner n)) core is after_going going awaited e = refl
quiet_label s x i (Some (flat.Arrive owner)) core is after_going going awaited e = refl
quiet_label s x i (Some (flat.Leave owner)) core is after_going going awaited e = refl
quiet_label s x i (Some (flat.Advance ends)) core is after_going going awaited e =
    absurd (not_everyone s i core going awaited (advances_are_planned s x ends core going e).due)
quiet_label s x i (Some flat.Force) core is after_going going awaited e =
    let alike : LooksAlike (taken flat.Force (flat_of s)) (flat_of (after s x)) =
    subst (λ (f : Flat). LooksAlike f (flat_of (after s x))) (going_step (flat_of s) flat.Force going)
    (subst (λ (l : Option FlatStep). LooksAlike (labelled l (flat_of s)) (flat_of (after s x))) e (moved s x core is)) in
    not_both (flat_of (after s x)).ended (sym alike.ended) after_going

pub awaited_tokens_stay : AwaitedTokensStay
awaited_tokens_stay s x i core is after_going going awaited other =
    let root = only_advances_move s x core is (quiet_label s x i (step_label s x) core is after_going going awaited refl) in
    let same = others_stay s x i other in
    record {
      root = root;
      awaited = record {
        known = subst (λ (m : ℕ). i < m) (sym same.tokens) awaited.known;
        rests = ap (λ (v : View). v.errand) same.view ∙ awaited.rests;
        some = subst (λ (m : ℕ). 0 < m) (sym (ap (λ v. absent (flat_of (after s x)).phase v) same.view
            ∙ ap (λ p. absent p (view_at s.views i)) root.phase)) awaited.some;
      };
    }
