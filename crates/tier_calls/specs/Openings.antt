-- Calls that open a path of empty tiers (not part of Java's API).
use Rattle.std.specs.Prelude.{ℕ, ◌<◌}
use Rattle.tier_steps.specs.declared.view.Errand.{Errand}
use Rattle.tier_steps.specs.declared.view.Errand.TheVariants.{Opening}
use Rattle.tier_core.specs.Turn.{claimed_by}
use Rattle.tier_calls.specs.declared.going.Going.{Going}
use Rattle.tier_calls.specs.Calls.{IsAt}
use Rattle.tier_calls.specs.Joins.{JoinAt}

-- the tier for which a path is opened, and the number of members
abbrev pub asked_tier : Errand → ℕ
asked_tier (Opening tier claimed stage size) = tier
asked_tier _ = 0

abbrev pub asked_size : Errand → ℕ
asked_size (Opening tier claimed stage size) = size
asked_size _ = 0

-- a token that opens a path and has claimed a tier of it
pub record IsOpening (g : Going) : Type 0 where
  pub at : IsAt g.token.tree g
  pub claims : 0 < claimed_by g.token.view.errand
  pub some : 0 < asked_size g.token.view.errand
  pub shown : JoinAt g.token.tree.key.shape 1 g.token.view.tier (asked_tier g.token.view.errand) (asked_size g.token.view.errand)
      g.token.view g.answer g.progress
