-- Each run is a flat run.
use Rattle.std.proofs.Common.{◌≡◌, ◌≢◌, ℕ, ◌<◌, ⊎_elim, Bool, true, false, cond, eqb, ltb, List, [], ◌∷◌, length, length-set, set, refl, sym, ◌∙◌, subst, arith, None}
use Rattle.std.specs.Prelude.{◌&&◌}
use Rattle.std.proofs.lemmas.List.{get_or-set_same, get_or-set_other}
use Rattle.std.proofs.lemmas.Bool.{cases_eq, ltb-true, eqb-true}
use Rattle.std.specs.Prelude.{Option, Some, ◌++◌}
use Rattle.flat_phaser.specs.Flat.{Flat}
use Rattle.flat_phaser.specs.declared.FlatStep.{FlatStep}
use Rattle.flat_phaser.specs.Step.{flat_run, IsFlatRun}
use Rattle.flat_phaser.proofs.Everyone.{both_true}
use Rattle.tier_steps.specs.declared.view.View.{View}
use Rattle.tier_steps.specs.declared.view.Errand.TheVariants.{Rest, Advancing}
use Rattle.tier_steps.specs.Image.{image, label, labelled, IsAllowedLabel, LooksAlike}
use Rattle.tier_core.specs.Turn.{Call, Progress, Idle, Begun, ToSeek, Settling, ToGiveBack, Passing, Owing, Due, Refreshing, Turn}
use Rattle.tier_core.specs.Machine.{State, IsCore, CallFits, BegunFits, view_at, call_at, is_active, is_due, turn_at, played}
use Rattle.tier_core.specs.Run.{Step, Begin, Go, Finish, is_idle, may_call, may_begin, may_go, may_finish, begun, finish_at, plan_ends, after, run, step_label, listed, labels, IsCall, IsStepOfCalls, TheTreeIsFlat}
use Rattle.tier_core.specs.declared.call.Call.TheVariants as call
use Rattle.tier_core.proofs.Turns.{by_test, not_both, finish_next}
use Rattle.tier_core.proofs.Places.{MayPlay, played_core, played_flat, turn_may}

-- a token that is idle rests, and one that must advance owes it
idle_rests : (ps : List ℕ) (p : Progress) (v : View) → is_idle p ≡ true → CallFits ps p v → v.errand ≡ Rest
idle_rests ps Idle v e fits = fits
idle_rests ps (Begun c) v e fits = not_both false e refl
idle_rests ps (ToSeek tier size) v e fits = not_both false e refl
idle_rests ps Settling v e fits = not_both false e refl
idle_rests ps (ToGiveBack answer) v e fits = not_both false e refl
idle_rests ps (Passing passage) v e fits = not_both false e refl
idle_rests ps (Owing own) v e fits = not_both false e refl
idle_rests ps (Due own) v e fits = not_both false e refl
idle_rests ps (Refreshing has_moved) v e fits = not_both false e refl

pub due_advances : (ps : List ℕ) (p : Progress) (v : View) → is_due p ≡ true → CallFits ps p v → v.errand ≡ Advancing
due_advances ps Idle v e fits = not_both false e refl
due_advances ps (Begun c) v e fits = not_both false e refl
due_advances ps (ToSeek tier size) v e fits = not_both false e refl
due_advances ps Settling v e fits = not_both false e refl
due_advances ps (ToGiveBack answer) v e fits = not_both false e refl
due_advances ps (Passing passage) v e fits = not_both false e refl
due_advances ps (Owing own) v e fits = not_both false e refl
due_advances ps (Due own) v e fits = fits
due_advances ps (Refreshing has_moved) v e fits = not_both false e refl

call_fits : (ps : List ℕ) (c : Call) (v : View) → IsCall c → may_call (length ps) c v ≡ true → BegunFits ps c v
call_fits ps (call.Join tier size) v is e =
    let a = both_true (ltb tier (length ps)) (eqb v.size 0) e in
    record { place = ltb-true tier (length ps) a.0; some = is.0; few = is.1; none = eqb-true v.size 0 a.1 }
call_fits ps call.Arrive v is e = ltb-true 0 v.size e
call_fits ps call.Leave v is e = ltb-true 0 v.size e
call_fits ps call.Poll v is e = ltb-true 0 v.size e
call_fits ps call.Force v is e = tt

-- a call that begins
pub begun_core : (s : State) (i : ℕ) (c : Call) → IsCore s → IsCall c → may_begin s i c ≡ true → IsCore (begun s i c)
begun_core s i c core is e =
    let a = both_true (ltb i (length s.views)) (is_idle (call_at s.calls i) && may_call (length s.parents) c (view_at s.views i)) e in
    let b = both_true (is_idle (call_at s.calls i)) (may_call (length s.parents) c (view_at s.views i)) a.1 in
    let h : i < length s.views = ltb-true i (length s.views) a.0 in
    let rest = idle_rests s.parents (call_at s.calls i) (view_at s.views i) b.0 (core.calls i h) in
    let fits = call_fits s.parents c (view_at s.views i) is b.1 in
    record {
      shape = core.shape;
      few = core.few;
      tally = core.tally;
      long = length-set s.calls i (Begun c) ∙ core.long;
      calls = λ j k. ⊎_elim
          (λ (q : j ≡ i). subst (λ (n : ℕ). CallFits s.parents (call_at (set s.calls i (Begun c)) n) (view_at s.views n)) (sym q)
          (subst (λ (p : Progress). CallFits s.parents p (view_at s.views i))
          (sym (get_or-set_same s.calls i (Begun c) Idle (let l = core.long in omega arith))) (rest, fits)))
          (λ (n : j ≢ i). subst (λ (p : Progress). CallFits s.parents p (view_at s.views j)) (sym (get_or-set_other s.calls i j (Begun c) Idle n)) (core.calls j k))
          (cases_eq j i);
    }

-- an advance
pub finish_may : (s : State) (i : ℕ) (ends : Bool) → IsCore s → i < length s.views → is_due (call_at s.calls i) ≡ true
    → MayPlay s i (finish_at s i ends)
finish_may s i ends core h e =
    finish_next s.parents s.words (view_at s.views i) ends core.tally.some
    (due_advances s.parents (call_at s.calls i) (view_at s.views i) e (core.calls i h))

-- what one step is
abbrev pub Moves : Option FlatStep → State → Flat → Type 0
Moves l s f = IsAllowedLabel l f × LooksAlike (labelled l f) (image s.words s.views) × IsCore s

plays : (s : State) (i : ℕ) (r : Turn) (f : Flat) → IsCore s → LooksAlike f (image s.words s.views) → i < length s.views → MayPlay s i r
    → Moves (label i r.kind) (played s i r) f
plays s i r f core alike h may =
    let law = played_flat s i r f core h may alike in
    (law.0, law.1, played_core s i r core h may)

pub step_moves : (s : State) (x : Step) (f : Flat) → IsCore s → IsStepOfCalls x → LooksAlike f (image s.words s.views)
    → Moves (step_label s x) (after s x) f
step_moves s (Begin i c) f core is alike =
    by_test (λ b. Moves None (cond b (begun s i c) s) f) (may_begin s i c)
    (λ e. (tt, alike, begun_core s i c core is e)) (λ _. (tt, alike, core))
step_moves s (Go i) f core is alike =
    by_test (λ b. Moves (cond b (label i (turn_at s i).kind) None) (cond b (played s i (turn_at s i)) s) f) (may_go s i)
    (λ e. let a = both_true (ltb i (length s.views)) (is_active (call_at s.calls i)) e in
    let h : i < length s.views = ltb-true i (length s.views) a.0 in
    plays s i (turn_at s i) f core alike h (turn_may s i core h a.1))
    (λ _. (tt, alike, core))
step_moves s (Finish i) f core is alike =
    by_test (λ b. Moves (cond b (label i (finish_at s i (plan_ends s)).kind) None) (cond b (played s i (finish_at s i (plan_ends s))) s) f)
    (may_finish s i)
    (λ e. let a = both_true (ltb i (length s.views)) (is_due (call_at s.calls i)) e in
    let h : i < length s.views = ltb-true i (length s.views) a.0 in
    plays s i (finish_at s i (plan_ends s)) f core alike h (finish_may s i (plan_ends s) core h a.1))
    (λ _. (tt, alike, core))

-- a run that begins with a label, or with a step that has none
label_run : (l : Option FlatStep) (steps : List FlatStep) (f : Flat) → IsAllowedLabel l f → IsFlatRun steps (labelled l f)
    → IsFlatRun (listed l ++ steps) f
label_run None steps f may rest = rest
label_run (Some step) steps f may rest = (may, rest)

label_leaves : (l : Option FlatStep) (steps : List FlatStep) (f : Flat) → flat_run (listed l ++ steps) f ≡ flat_run steps (labelled l f)
label_leaves None steps f = refl
label_leaves (Some step) steps f = refl

pub the_tree_is_flat : TheTreeIsFlat
the_tree_is_flat s [] f core are alike = record { allowed = tt; alike = alike; core = core }
the_tree_is_flat s (x ∷ xs) f core are alike =
    let one = step_moves s x f core are.0 alike in
    let rest = the_tree_is_flat (after s x) xs (labelled (step_label s x) f) one.2 are.1 one.1 in
    record {
      allowed = label_run (step_label s x) (labels xs (after s x)) f one.0 rest.allowed;
      alike = subst (λ (g : Flat). LooksAlike g (image (run (x ∷ xs) s).words (run (x ∷ xs) s).views))
          (sym (label_leaves (step_label s x) (labels xs (after s x)) f)) rest.alike;
      core = rest.core;
    }
