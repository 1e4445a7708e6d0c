-- Which tiers a token brings into its phase, said without what the step needs (not part of Java's API).
use Rattle.std.specs.Prelude.{◌≡◌, ℕ, ◌<◌, ◌⊎◌, true, List}
use Rattle.phaser_word.specs.Fields.{Fields}
use Rattle.tier_steps.specs.declared.view.View.{View}
use Rattle.tier_steps.specs.declared.view.Errand.TheVariants.{Climbing}
use Rattle.tier_steps.specs.declared.view.Passage.{Passage}
use Rattle.tier_steps.specs.declared.kind.Kind.TheVariants.{Refresh}
use Rattle.tier_steps.specs.Step.{Needs}
use Rattle.tier_core.specs.Turn.{lags}

-- the token's tier, if it has a member that is to arrive there, or the tier that it climbs to
abbrev pub IsNext : ℕ → View → Type 0
IsNext t v = ((v.tier ≡ t) × (v.arrived < v.size)) ⊎ ((passage : Passage) × (v.errand ≡ Climbing t passage))

-- A token refreshes no other tier, and none that doesn't lag.
abbrev pub RefreshesAreNext : Type 0
RefreshesAreNext = (parents : List ℕ) (t : ℕ) (w : Fields) (v : View) → Needs parents Refresh t w v → IsNext t v × (lags w v ≡ true)
