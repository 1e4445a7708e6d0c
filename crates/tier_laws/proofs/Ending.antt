-- The flat phaser before and after a turn.
use Rattle.std.proofs.Common.{◌≡◌, ℕ, suc, ◌<◌, Bool, true, false, cond, eqb, List, [], ◌∷◌, ◌++◌, length, take, drop, refl, sym, ◌∙◌, ap, subst, None, Some}
use Rattle.std.specs.Prelude.{Option}
use Rattle.phaser_word.specs.Phase.{shown_of}
use Rattle.flat_phaser.specs.declared.FlatStep.{FlatStep}
use Rattle.flat_phaser.specs.declared.FlatStep.TheVariants as flat
use Rattle.flat_phaser.specs.Flat.{Flat}
use Rattle.flat_phaser.specs.Step.{taken, flat_step}
use Rattle.tier_steps.specs.declared.view.View.{View}
use Rattle.tier_steps.specs.declared.view.Errand.TheVariants.{Advancing}
use Rattle.tier_steps.specs.declared.kind.Kind.TheVariants.{Force}
use Rattle.tier_steps.specs.View.{new_view}
use Rattle.tier_steps.specs.Tally.{word_at, Tallies}
use Rattle.tier_steps.specs.Image.{label, labelled, LooksAlike}
use Rattle.tier_steps.specs.Due.{IsReady}
use Rattle.tier_steps.proofs.Ready.{advances_are_due}
use Rattle.tier_core.specs.declared.call.Turn.{Turn}
use Rattle.tier_core.specs.Machine.{State, IsCore, view_at, turn_at, played, with_token}
use Rattle.tier_core.proofs.Turns.{by_test}
use Rattle.tier_core.proofs.Places.{around, MayPlay, played_flat}
use Rattle.tier_laws.specs.Frame.{flat_of}
use Rattle.tier_core.specs.declared.call.Step.{Step}
use Rattle.tier_core.specs.declared.call.Step.TheVariants.{Begin, Go, Finish}
use Rattle.tier_core.specs.Run.{may_go, may_finish, finish_at, plan_ends, after}
use Rattle.tier_laws.specs.Moments.{Moment, Event, Takes, Enters, flat_after}
use Rattle.tier_laws.specs.Reports.{HasEnded}

-- a moment beside the flat phasers that the tree represents
abbrev pub at : ℕ → State → Turn → Moment
at i s r = record { state = s; turn = r; before = flat_of s; afterwards = flat_of (played s i r) }

pub alike_itself : (f : Flat) → LooksAlike f f
alike_itself f = record {
  phase = refl;
  ended = refl;
  going = λ _. record { phase = refl; ended = refl; due = refl; members = λ _. refl; arrived = λ _. refl };
}

-- a turn is the flat step of its label
pub turned_flat : (s : State) (i : ℕ) (r : Turn) → IsCore s → i < length s.views → MayPlay s i r
    → LooksAlike (labelled (label i r.kind) (flat_of s)) (flat_after (at i s r))
turned_flat s i r core h may = (played_flat s i r (flat_of s) core h may (alike_itself (flat_of s))).1

over : (l : Option FlatStep) (f : Flat) → f.ended ≡ true → labelled l f ≡ f
over None f e = refl
over (Some step) f e = ap (λ b. cond b f (taken step f)) e

shows : (p q : ℕ) (b : Bool) → p ≡ q → b ≡ true → shown_of q b ≡ shown_of p true
shows p q b e f = ap (λ x. shown_of x b) (sym e) ∙ ap (λ x. shown_of p x) f

-- what has ended stays so
pub ended_stays : (s : State) (i : ℕ) (r : Turn) → IsCore s → i < length s.views → MayPlay s i r → (word_at s.words 0).ended ≡ true
    → HasEnded i (shown_of (word_at s.words 0).phase true) (at i s r)
ended_stays s i r core h may e =
    let alike = turned_flat s i r core h may in
    let same = over (label i r.kind) (flat_of s) e in
    let ended : (flat_after (at i s r)).ended ≡ true = sym alike.ended ∙ (ap (λ (f : Flat). f.ended) same ∙ e) in
    let phase : (flat_of s).phase ≡ (flat_after (at i s r)).phase = ap (λ (f : Flat). f.phase) (sym same) ∙ alike.phase in
    record {
      ended = ended;
      shows = shows (word_at s.words 0).phase (flat_after (at i s r)).phase (flat_after (at i s r)).ended phase ended;
    }

-- a forced tree has ended in its phase
pub forced : (s : State) (i : ℕ) (r : Turn) → IsCore s → i < length s.views → MayPlay s i r → r.kind ≡ Force
    → HasEnded i (shown_of (word_at s.words 0).phase true) (at i s r)
forced s i r core h may e =
    let alike : LooksAlike (flat_step flat.Force (flat_of s)) (flat_after (at i s r)) =
    subst (λ l. LooksAlike (labelled l (flat_of s)) (flat_after (at i s r))) (ap (label i) e) (turned_flat s i r core h may) in
    let known : ((flat_step flat.Force (flat_of s)).ended ≡ true) × ((flat_step flat.Force (flat_of s)).phase ≡ (flat_of s).phase) =
    by_test (λ b. b ≡ (flat_of s).ended → ((cond b (flat_of s) (taken flat.Force (flat_of s))).ended ≡ true) ×
    ((cond b (flat_of s) (taken flat.Force (flat_of s))).phase ≡ (flat_of s).phase)) (flat_of s).ended
    (λ e _. (e, refl)) (λ _ _. (refl, refl)) refl in
    let ended : (flat_after (at i s r)).ended ≡ true = sym alike.ended ∙ known.0 in
    let phase : (flat_of s).phase ≡ (flat_after (at i s r)).phase = sym known.1 ∙ alike.phase in
    record {
      ended = ended;
      shows = shows (word_at s.words 0).phase (flat_after (at i s r)).phase (flat_after (at i s r)).ended phase ended;
    }

-- a token that owes the advance of a tree that goes on finds it due
pub owing_is_ready : (s : State) (i : ℕ) → IsCore s → i < length s.views → (view_at s.views i).errand ≡ Advancing
    → (word_at s.words 0).ended ≡ false
    → IsReady s.words s.views
owing_is_ready s i core h owes going =
    subst (λ (vs : List View). IsReady s.words vs) (sym (around s.views i (new_view 0) h))
    (advances_are_due s.parents s.words (take i s.views) (view_at s.views i) (drop (suc i) s.views) 0 true record {
      shape = core.shape;
      within = core.tally.some;
      tally = subst (λ (vs : List View). Tallies s.parents s.words vs) (around s.views i (new_view 0) h) core.tally;
      needs = (refl, record { errand = owes; going = going });
    })

-- the moments of a run beside the flat phasers that the tree represents
abbrev pub own_imaged : ℕ → State → Step → List Moment
own_imaged i s (Begin j c) = []
own_imaged i s (Go j) = cond (eqb j i) (cond (may_go s j) (at j s (turn_at s j) ∷ []) []) []
own_imaged i s (Finish j) = cond (eqb j i) (cond (may_finish s j) (at j s (finish_at s j (plan_ends s)) ∷ []) []) []

abbrev pub imaged : ℕ → List Event → State → List Moment → List Moment
imaged i [] s past = past
imaged i (Takes x ∷ events) s past = imaged i events (after s x) (own_imaged i s x ++ past)
imaged i (Enters ∷ events) s past = imaged i events (with_token s) past
