-- What a forced end answers (`forceTermination` of Java SE 21's `Phaser`; tries are not part of its API).
use Rattle.std.specs.Prelude.{◌≡◌, ◌⊎◌, ℕ, false, None, List, ◌∷◌}
use Rattle.tier_calls.specs.Holding.{Holding}
use Rattle.tier_calls.specs.Passes.{EndSeen}
use Rattle.tier_calls.specs.Arrives.{IsSoon, IsSpent}
use Rattle.tier_calls.specs.Registers.{IsLookedAround}
use Rattle.tier_steps.specs.declared.kind.Kind.{Kind}
use Rattle.tier_steps.specs.declared.kind.Kind.TheVariants.{Force}
use Rattle.tier_calls.specs.Made.{MadeOnly, is_glance}
use Rattle.tier_calls.specs.declared.forcing.Forced.{Forced}
use Rattle.tier_calls.specs.declared.forcing.Forced.TheVariants.{Ended, Busy}

-- only looks, and then at most the step that ends the tree
abbrev pub HasForced : List Kind → List Kind → Type 0
HasForced old new = (looked : List Kind) × MadeOnly is_glance old looked × ((new ≡ looked) ⊎ (new ≡ Force ∷ looked))

-- What each answer says. After Busy the token has not seen the end, so no word has changed.
abbrev pub Forces : Holding → ℕ → Holding → Forced → Type 0
Forces old tries new (Ended shown) = IsSoon tries old new × IsLookedAround old.view new.view × EndSeen new.view shown
Forces old tries new Busy = IsSpent tries old new × IsLookedAround old.view new.view × (new.view.end_seen ≡ None)

-- which steps the token took: before Busy only looks
abbrev pub ForcedBy : Forced → List Kind → List Kind → Type 0
ForcedBy (Ended shown) old new = HasForced old new
ForcedBy Busy old new = MadeOnly is_glance old new

-- the token last saw the root, and the tree had not ended
pub record IsBefore (h : Holding) : Type 0 where
  pub root : h.tier ≡ 0
  pub going : h.word.ended ≡ false

abbrev pub ForcesOnce : Holding → Holding → Forced → Type 0
ForcesOnce old new (Ended shown) = IsSpent 1 old new × IsLookedAround old.view new.view × EndSeen new.view shown
ForcesOnce old new Busy = IsSpent 1 old new × IsLookedAround old.view new.view × IsBefore new × (new.view.end_seen ≡ None)

abbrev pub HasEnded : Forced → Type 0
HasEnded (Ended shown) = Unit {0}
HasEnded Busy = ⊥
