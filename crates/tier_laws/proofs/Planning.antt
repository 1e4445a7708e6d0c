-- The root advances only if that is due, and as the plan says.
use Rattle.std.proofs.Common.{◌≡◌, ◌≢◌, ℕ, zero, suc, ◌<◌, ◌↔◌, ⊎_elim, Bool, true, false, cond, eqb, ltb, List, length, take, drop, refl, sym, ◌∙◌, ap, subst, Some, None}
use Rattle.std.specs.Prelude.{Option}
use Rattle.std.proofs.lemmas.Bool.{cases_eq, eq-eqb, ne_eqb, ltb-true}
use Rattle.advance_rule.specs.Plan.{end_ends}
use Rattle.flat_phaser.specs.declared.FlatStep.{FlatStep}
use Rattle.flat_phaser.specs.declared.FlatStep.TheVariants as flat
use Rattle.flat_phaser.specs.Flat.{registered}
use Rattle.flat_phaser.proofs.Everyone.{both_true}
use Rattle.tier_steps.specs.View.{new_view}
use Rattle.tier_steps.specs.declared.view.View.{View}
use Rattle.tier_steps.specs.declared.view.Errand.{Errand}
use Rattle.tier_steps.specs.declared.view.Errand.TheVariants.{Rest, Opening, Climbing, Advancing}
use Rattle.tier_steps.specs.declared.view.OpeningStage.{OpeningStage}
use Rattle.tier_steps.specs.declared.view.OpeningStage.TheVariants.{Seeking, Joined, GoingBack}
use Rattle.tier_steps.specs.declared.kind.Kind.{Kind}
use Rattle.tier_steps.specs.declared.kind.Kind.TheVariants.{Look, Glance, Refuse, Join, Arrive, Leave, Advance, Force, Claim, Settle, SettleBack, Climb, Refresh}
use Rattle.tier_steps.specs.Tally.{word_at}
use Rattle.tier_steps.specs.Step.{Needs, opening}
use Rattle.tier_steps.specs.Image.{label}
use Rattle.tier_steps.specs.Laws.{IsStep}
use Rattle.tier_steps.specs.Due.{IsReady}
use Rattle.tier_steps.proofs.Ready.{advances_are_due, quiet_is_not_due}
use Rattle.tier_core.specs.declared.call.Progress.{Progress}
use Rattle.tier_core.specs.declared.call.Turn.{Turn}
use Rattle.tier_core.specs.declared.call.Progress.TheVariants.{Idle, Begun, Seeking as ToSeek, Settling, GivingBack as ToGiveBack, Passing, Owing, Due, Refreshing}
use Rattle.tier_core.specs.Turn.{claimed_by}
use Rattle.tier_core.specs.Machine.{State, IsCore, CallFits, view_at, call_at, is_active, is_due, turn_at}
use Rattle.tier_core.specs.declared.call.Step.TheVariants.{Begin, Go, Finish}
use Rattle.tier_core.specs.Run.{may_go, may_finish, finish_at, plan_ends}
use Rattle.tier_core.proofs.Turns.{by_test, not_both}
use Rattle.tier_core.proofs.Places.{around, MayPlay, is_step, turn_may}
use Rattle.tier_core.proofs.Runs.{finish_may}
use Rattle.tier_laws.specs.Frame.{flat_of}
use Rattle.tier_laws.specs.Plan.{flat_ends, IsPlanned, AdvancesArePlanned, TheLastOneAdvances, QuietTreesWait, QuietTreesAwaitSomebody}
use Rattle.tier_steps.proofs.Awaits.{quiet_trees_await_somebody as at_rest}

-- what a token finds that may advance the root
pub found : (s : State) (i : ℕ) (r : Turn) (ends : Bool) → IsCore s → i < length s.views → MayPlay s i r → r.kind ≡ Advance ends
    → IsReady s.words s.views
found s i r ends core h may e =
    let step : IsStep s.parents s.words (take i s.views) (view_at s.views i) (drop (suc i) s.views) r.tier (Advance ends) =
    subst (λ (k : Kind). IsStep s.parents s.words (take i s.views) (view_at s.views i) (drop (suc i) s.views) r.tier k) e
    (is_step s i r core h may) in
    subst (λ (vs : List View). IsReady s.words vs) (sym (around s.views i (new_view 0) h))
    (advances_are_due s.parents s.words (take i s.views) (view_at s.views i) (drop (suc i) s.views) r.tier ends step)

-- who advances owes it
pub advancing : (s : State) (i : ℕ) (r : Turn) (ends : Bool) → MayPlay s i r → r.kind ≡ Advance ends
    → (view_at s.views i).errand ≡ Advancing
advancing s i r ends may e =
    let n : Needs s.parents (Advance ends) r.tier (word_at s.words r.tier) (view_at s.views i) =
    subst (λ (k : Kind). Needs s.parents k r.tier (word_at s.words r.tier) (view_at s.views i)) e may.needs in n.1.errand

-- a call that goes on by a step that isn't the advance doesn't owe the advance
opens : (tier claimed size : ℕ) (stage : OpeningStage) → opening tier claimed stage size ≢ Advancing
opens tier zero size stage e = absurd (let a : Rest ≡ Advancing = e in cc)
opens tier (suc claimed) size stage e = absurd (let a : Opening tier (suc claimed) stage size ≡ Advancing = e in cc)

rests : (e : Errand) → e ≡ Rest → e ≢ Advancing
rests e q a = absurd (let b : Rest ≡ Advancing = sym q ∙ a in cc)

pub active_owes : (ps : List ℕ) (p : Progress) (v : View) → is_active p ≡ true → CallFits ps p v → v.errand ≢ Advancing
active_owes ps Idle v e fits = not_both false e refl
active_owes ps (Begun c) v e fits = rests v.errand fits.0
active_owes ps (ToSeek tier size) v e fits = λ q. opens tier (claimed_by v.errand) size Seeking (sym fits.0 ∙ q)
active_owes ps Settling v e fits = λ q. absurd (let a : Opening fits.0 (suc fits.1) Joined fits.2 ≡ Advancing = sym fits.3 ∙ q in cc)
active_owes ps (ToGiveBack answer) v e fits =
    λ q. absurd (let a : Opening fits.0 (suc fits.1) GoingBack fits.2 ≡ Advancing = sym fits.3 ∙ q in cc)
active_owes ps (Passing passage) v e fits = rests v.errand fits.0
active_owes ps (Owing own) v e fits = λ q. absurd (let a : Climbing fits.0 fits.1 ≡ Advancing = sym fits.2 ∙ q in cc)
active_owes ps (Due own) v e fits = not_both false e refl
active_owes ps (Refreshing has_moved) v e fits = rests v.errand fits.0

-- the label of an advance
abbrev ends_of : Option FlatStep → Bool → Bool
ends_of None other = other
ends_of (Some (flat.Join owner n)) other = other
ends_of (Some (flat.Arrive owner)) other = other
ends_of (Some (flat.Leave owner)) other = other
ends_of (Some (flat.Advance ends)) other = ends
ends_of (Some flat.Force) other = other

kind_of : (i : ℕ) (k : Kind) (ends : Bool) → label i k ≡ Some (flat.Advance ends) → k ≡ Advance ends
kind_of i Look ends e = absurd (let a : None ≡ Some (flat.Advance ends) = e in cc)
kind_of i Glance ends e = absurd (let a : None ≡ Some (flat.Advance ends) = e in cc)
kind_of i (Refuse tier claimed size) ends e = absurd (let a : None ≡ Some (flat.Advance ends) = e in cc)
kind_of i (Join tier claimed size) ends e = absurd (let a : Some (flat.Join i size) ≡ Some (flat.Advance ends) = e in cc)
kind_of i Arrive ends e = absurd (let a : Some (flat.Arrive i) ≡ Some (flat.Advance ends) = e in cc)
kind_of i Leave ends e = absurd (let a : Some (flat.Leave i) ≡ Some (flat.Advance ends) = e in cc)
kind_of i (Advance other) ends e = let a : other ≡ ends = ap (λ l. ends_of l other) e in ap Advance a
kind_of i Force ends e = absurd (let a : Some flat.Force ≡ Some (flat.Advance ends) = e in cc)
kind_of i (Claim tier claimed size) ends e = absurd (let a : None ≡ Some (flat.Advance ends) = e in cc)
kind_of i (Settle tier claimed size) ends e = absurd (let a : None ≡ Some (flat.Advance ends) = e in cc)
kind_of i (SettleBack tier claimed size) ends e = absurd (let a : None ≡ Some (flat.Advance ends) = e in cc)
kind_of i (Climb passage) ends e = absurd (let a : None ≡ Some (flat.Advance ends) = e in cc)
kind_of i Refresh ends e = absurd (let a : None ≡ Some (flat.Advance ends) = e in cc)

-- two numbers that are 0 together
zero_alike : (m n : ℕ) → ((m ≡ 0) ↔ (n ≡ 0)) → eqb m 0 ≡ eqb n 0
zero_alike m n iff = ⊎_elim
    (λ (e : m ≡ 0). eq-eqb m 0 e ∙ sym (eq-eqb n 0 (iff.0 e)))
    (λ (e : m ≢ 0). ne_eqb m 0 e ∙ sym (ne_eqb n 0 (λ z. e (iff.1 z))))
    (cases_eq m 0)

pub plan_alike : (s : State) → IsReady s.words s.views → plan_ends s ≡ flat_ends s
plan_alike s ready =
    ap (λ b. end_ends s.plan (word_at s.words 0).phase b) (zero_alike (word_at s.words 0).parties (registered (flat_of s)) ready.nobody)

-- the turn with which a call ends that has to advance
last_kind : (s : State) (i : ℕ) → (word_at s.words 0).ended ≡ false → (finish_at s i (plan_ends s)).kind ≡ Advance (plan_ends s)
last_kind s i going = ap (λ b. cond b Look (Advance (plan_ends s))) going

pub known_due : (s : State) (i : ℕ) → may_finish s i ≡ true → (i < length s.views) × (is_due (call_at s.calls i) ≡ true)
known_due s i e = let a = both_true (ltb i (length s.views)) (is_due (call_at s.calls i)) e in (ltb-true i (length s.views) a.0, a.1)

pub known_active : (s : State) (i : ℕ) → may_go s i ≡ true → (i < length s.views) × (is_active (call_at s.calls i) ≡ true)
known_active s i e = let a = both_true (ltb i (length s.views)) (is_active (call_at s.calls i)) e in (ltb-true i (length s.views) a.0, a.1)

ready_last : (s : State) (i : ℕ) → IsCore s → (word_at s.words 0).ended ≡ false → may_finish s i ≡ true → IsReady s.words s.views
ready_last s i core going e =
    let a = known_due s i e in
    found s i (finish_at s i (plan_ends s)) (plan_ends s) core a.0 (finish_may s i (plan_ends s) core a.0 a.1) (last_kind s i going)

pub the_last_one_advances : TheLastOneAdvances
the_last_one_advances s i core going e =
    let ready = ready_last s i core going e in
    record { kind = last_kind s i going ∙ ap Advance (plan_alike s ready); due = ready.due }

pub no_label : (ends : Bool) {A : Type 0} → None ≡ Some (flat.Advance ends) → A
no_label ends e = absurd (let a : None ≡ Some (flat.Advance ends) = e in cc)

pub advances_are_planned : AdvancesArePlanned
advances_are_planned s (Begin i c) ends core going e = no_label ends e
advances_are_planned s (Go i) ends core going e =
    by_test (λ b. cond b (label i (turn_at s i).kind) None ≡ Some (flat.Advance ends) → IsPlanned s ends) (may_go s i)
    (λ may q. let a = known_active s i may in
    absurd (active_owes s.parents (call_at s.calls i) (view_at s.views i) a.1 (core.calls i a.0)
    (advancing s i (turn_at s i) ends (turn_may s i core a.0 a.1) (kind_of i (turn_at s i).kind ends q))))
    (λ _ q. no_label ends q) e
advances_are_planned s (Finish i) ends core going e =
    by_test
    (λ b. b ≡ may_finish s i → cond b (label i (finish_at s i (plan_ends s)).kind) None ≡ Some (flat.Advance ends) → IsPlanned s ends)
    (may_finish s i)
    (λ may _ q. let ready = ready_last s i core going may in
    let k : Advance (plan_ends s) ≡ Advance ends = sym (last_kind s i going) ∙ kind_of i (finish_at s i (plan_ends s)).kind ends q in
    let same : plan_ends s ≡ ends = ap (λ x. ends_of (label i x) true) k in
    record { due = ready.due; ends = sym same ∙ plan_alike s ready })
    (λ _ _ q. no_label ends q) refl e

pub quiet_trees_wait : QuietTreesWait
quiet_trees_wait s quiet = quiet_is_not_due s.words s.views quiet

pub quiet_trees_await_somebody : QuietTreesAwaitSomebody
quiet_trees_await_somebody s core going quiet some = at_rest s.parents s.words s.views core.shape core.tally going quiet some
