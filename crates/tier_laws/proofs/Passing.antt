-- The turns of a step that passes a tier, and what holds of the one that is taken.
use Rattle.std.proofs.Common.{◌≡◌, ℕ, ◌<◌, List, true, false, cond, refl}
use Rattle.phaser_word.specs.Fields.{Fields}
use Rattle.tier_shape.specs.Parents.{parent_of}
use Rattle.tier_steps.specs.declared.kind.Kind.{Kind}
use Rattle.tier_steps.specs.declared.kind.Kind.TheVariants.{Refresh}
use Rattle.tier_steps.specs.declared.view.View.{View}
use Rattle.tier_steps.specs.declared.view.Errand.{Errand}
use Rattle.tier_steps.specs.declared.view.Errand.TheVariants.{Rest, Climbing, Advancing}
use Rattle.tier_steps.specs.declared.view.Passage.{Passage}
use Rattle.tier_steps.specs.Step.{passed, owed}
use Rattle.tier_steps.proofs.Pass.{owed_is}
use Rattle.tier_core.specs.declared.call.Turn.{Turn}
use Rattle.tier_core.specs.declared.call.Played.{Played}
use Rattle.tier_core.specs.declared.call.Played.TheVariants.{GoesOn}
use Rattle.tier_core.specs.declared.call.Progress.{Progress}
use Rattle.tier_core.specs.Turn.{lags, last_look, goes_on, reported, pass_turn}
use Rattle.tier_laws.proofs.Memory.{by_turn}

-- the refresh of the tier
abbrev pub refresh_turn : ℕ → Progress → Turn
refresh_turn t here = record { kind = Refresh; tier = t; next = here; answer = GoesOn }

-- the step itself, after which the token owes this
abbrev pub passed_turn : Passage → ℕ → Passage → Kind → Fields → View → Errand → Turn
passed_turn own t passage kind w v e =
    record { kind = kind; tier = t; next = goes_on own e; answer = reported v.phase (passed t passage w).parties e }

-- What holds of the look at an ended root, of the refresh, and of the step by what its token owes afterwards, holds of the turn.
pub by_passing : (P : Turn → Type 0) (ps : List ℕ) (own : Passage) (t : ℕ) (passage : Passage) (kind : Kind) (here : Progress)
    (over : Played) (w : Fields) (v : View)
    → (w.ended ≡ true → P (last_look over))
    → (w.ended ≡ false → lags w v ≡ true → P (refresh_turn t here))
    → (w.ended ≡ false → owed (parent_of ps t) t passage w ≡ Rest → P (passed_turn own t passage kind w v Rest))
    → (w.ended ≡ false → t ≡ 0 → owed (parent_of ps t) t passage w ≡ Advancing → P (passed_turn own t passage kind w v Advancing))
    → (w.ended ≡ false → (j : Passage) → 0 < t → owed (parent_of ps t) t passage w ≡ Climbing (parent_of ps t) j
    → P (passed_turn own t passage kind w v (Climbing (parent_of ps t) j)))
    → P (pass_turn ps own t passage kind here over w v)
by_passing P ps own t passage kind here over w v ended wait rest advance climb =
    let e : Errand = owed (parent_of ps t) t passage w in
    let goes : Turn = passed_turn own t passage kind w v e in
    by_turn P w.ended (last_look over) (cond (lags w v) (refresh_turn t here) goes) ended
    (λ going. by_turn P (lags w v) (refresh_turn t here) goes (wait going)
    (λ _. owed_is (λ x. owed (parent_of ps t) t passage w ≡ x → P (passed_turn own t passage kind w v x)) (parent_of ps t) t passage w
    (rest going) (advance going) (climb going) refl))
