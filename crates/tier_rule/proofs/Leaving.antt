-- The root leaves its phase only if everyone has arrived.
use Rattle.std.proofs.Common.{◌≡◌, ℕ, ◌⊎◌, inl, inr, ⊎_elim, Bool, true, false, cond, eqb, List, [], ◌∷◌, refl, sym, ◌∙◌, ap, arith}
use Rattle.std.specs.List.{AllByRecursion}
use Rattle.std.proofs.lemmas.Bool.{eqb-true}
use Rattle.flat_phaser.proofs.Everyone.{either}
use Rattle.tier_steps.specs.declared.view.View.{View}
use Rattle.tier_steps.specs.declared.kind.Kind.{Kind}
use Rattle.tier_steps.specs.declared.kind.Kind.TheVariants.{Look, Glance, Refuse, Join, Arrive, Leave, Advance, Force, Claim, Settle, SettleBack, Climb, Refresh}
use Rattle.tier_steps.specs.Tally.{ViewFits}
use Rattle.tier_steps.specs.Due.{is_advance}
use Rattle.tier_steps.proofs.Due.{IsHere}
use Rattle.tier_rule.specs.Laws.{HasArrived}

pub advance_or_not : (kind : Kind) → (is_advance kind ≡ false) ⊎ ((ends : Bool) × (kind ≡ Advance ends))
advance_or_not Look = inl refl
advance_or_not Glance = inl refl
advance_or_not (Refuse tier claimed size) = inl refl
advance_or_not (Join tier claimed size) = inl refl
advance_or_not Arrive = inl refl
advance_or_not Leave = inl refl
advance_or_not (Advance ends) = inr (ends, refl)
advance_or_not Force = inl refl
advance_or_not (Claim tier claimed size) = inl refl
advance_or_not (Settle tier claimed size) = inl refl
advance_or_not (SettleBack tier claimed size) = inl refl
advance_or_not (Climb passage) = inl refl
advance_or_not Refresh = inl refl

here_arrived : (p : ℕ) (v : View) → v.size ≡ cond {A = ℕ} (eqb v.phase p) v.arrived 0 → HasArrived p v
here_arrived p v is some = ⊎_elim
    (λ (e : eqb v.phase p ≡ true). (eqb-true v.phase p e, sym (is ∙ ap (λ (b : Bool). cond {A = ℕ} b v.arrived 0) e)))
    (λ (e : eqb v.phase p ≡ false). let z : v.size ≡ 0 = is ∙ ap (λ (b : Bool). cond {A = ℕ} b v.arrived 0) e in absurd (omega arith))
    (either (eqb v.phase p))

pub all_arrived : (ps : List ℕ) (p : ℕ) (ended : Bool) (vs : List View) → AllByRecursion (ViewFits ps p ended) vs
    → AllByRecursion (IsHere p) vs → AllByRecursion (HasArrived p) vs
all_arrived ps p ended [] fits here = tt
all_arrived ps p ended (v ∷ vs) fits here = (here_arrived p v (here.0 fits.0.within), all_arrived ps p ended vs fits.1 here.1)
