-- What a turn of a token leaves as it was (own).
use Rattle.std.specs.Prelude.{◌≡◌, ◌≢◌, ℕ, length}
use Rattle.flat_phaser.specs.Flat.{Flat}
use Rattle.tier_steps.specs.Tally.{word_at}
use Rattle.tier_steps.specs.Image.{image}
use Rattle.tier_core.specs.declared.call.Turn.{Turn}
use Rattle.tier_core.specs.Machine.{State, view_at, call_at, played}
use Rattle.tier_core.specs.declared.call.Step.{Step}
use Rattle.tier_core.specs.declared.call.Step.TheVariants.{Begin, Go, Finish}
use Rattle.tier_core.specs.Run.{after}

-- the flat phaser that a state represents
abbrev pub flat_of : State → Flat
flat_of s = image s.words s.views

-- no view but this token's differs, no call but this token's, and no word but that of this tier
pub record IsOwnChange (token tier : ℕ) (old new : State) : Type 0 where
  pub parents : new.parents ≡ old.parents
  pub plan : new.plan ≡ old.plan
  pub tiers : length new.words ≡ length old.words
  pub tokens : length new.views ≡ length old.views
  pub views : (other : ℕ) → other ≢ token → view_at new.views other ≡ view_at old.views other
  pub calls : (other : ℕ) → other ≢ token → call_at new.calls other ≡ call_at old.calls other
  pub words : (other : ℕ) → other ≢ tier → word_at new.words other ≡ word_at old.words other

abbrev pub TurnsChangeTheirOwn : Type 0
TurnsChangeTheirOwn = (s : State) (token : ℕ) (turn : Turn) → IsOwnChange token turn.tier s (played s token turn)

-- the token that takes a step of a run
abbrev pub actor : Step → ℕ
actor (Begin token c) = token
actor (Go token) = token
actor (Finish token) = token

-- what a step of a run leaves of every other token
pub record IsUntouched (token : ℕ) (old new : State) : Type 0 where
  pub view : view_at new.views token ≡ view_at old.views token
  pub call : call_at new.calls token ≡ call_at old.calls token
  pub tokens : length new.views ≡ length old.views

abbrev pub OthersStay : Type 0
OthersStay = (s : State) (step : Step) (token : ℕ) → token ≢ actor step → IsUntouched token s (after s step)
