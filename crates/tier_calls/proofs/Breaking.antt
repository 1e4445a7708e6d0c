-- Which steps a door makes that ends the tree.
use Rattle.std.proofs.Common.{◌≡◌, ℕ, zero, suc, Bool, true, false, List, ◌∷◌, refl, sym, ap, subst, inl, inr}
use Rattle.std.specs.Prelude.{MatchBool}
use Rattle.phaser_word.specs.Fields.{Fields}
use Rattle.tier_steps.specs.declared.kind.Kind.{Kind}
use Rattle.tier_steps.specs.declared.kind.Kind.TheVariants.{Look, Force}
use Rattle.tier_core.proofs.Turns.{not_both}
use Rattle.tier_rule.specs.Look.{glance}
use Rattle.tier_calls.specs.Holding.{Holding, Looked, Won, Lost}
use Rattle.tier_calls.specs.Made.{MadeOnly, is_glance}
use Rattle.tier_calls.specs.Forces.{HasForced, ForcedBy}
use Rattle.tier_calls.specs.declared.forcing.Forced.{Forced}
use Rattle.tier_calls.specs.declared.forcing.Forced.TheVariants.{Ended, Busy}
use Rattle.tier_calls.proofs.Making.{made_more, made_none, made_then}

glance_glance : (t : ℕ) → is_glance (glance t) ≡ true
glance_glance zero = refl
glance_glance (suc t) = refl

one_glance : (t : ℕ) (old new : List Kind) → new ≡ glance t ∷ old → MadeOnly is_glance old new
one_glance t old new is =
    subst (MadeOnly is_glance old) (sym is) (made_more is_glance (glance t) old old (glance_glance t) (made_none is_glance old))

-- one try
pub tried_force : (b : Bool) (h h' : Holding) → MatchBool b (Won Force h h') (Lost Force h h') → HasForced h.steps h'.steps
tried_force true h h' won = (h.steps, made_none is_glance h.steps, inr won.steps)
tried_force false h h' lost = (h'.steps, one_glance h.tier h.steps h'.steps lost.took.steps, inl refl)

pub lost_force : (b : Bool) (h h' : Holding) → MatchBool b (Won Force h h') (Lost Force h h') → h'.word.ended ≡ false
    → MadeOnly is_glance h.steps h'.steps
lost_force true h h' won e = not_both h'.word.ended (ap (λ (w : Fields). w.ended) won.word) e
lost_force false h h' lost e = one_glance h.tier h.steps h'.steps lost.took.steps

-- a look at the root before it
pub looked_glance : {h h' : Holding} → Looked Look 0 h h' → MadeOnly is_glance h.steps h'.steps
looked_glance {h} {h'} took = one_glance 0 h.steps h'.steps took.steps

pub looked_forced : {h h' : Holding} → Looked Look 0 h h' → HasForced h.steps h'.steps
looked_forced {h} {h'} took = (h'.steps, looked_glance took, inl refl)

pub forced_on : (f : Forced) {a b : List Kind} (c : List Kind) → MadeOnly is_glance a b → ForcedBy f b c → ForcedBy f a c
forced_on (Ended shown) {a} {b} c x y = (y.0, made_then is_glance x y.1, y.2)
forced_on Busy {a} {b} c x y = made_then is_glance x y
