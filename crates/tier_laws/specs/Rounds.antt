-- From one advance to the next (own).
use Rattle.std.specs.Prelude.{◌≡◌, ◌≢◌, ℕ, ◌<◌, false, true, length}
use Rattle.phaser_word.specs.Phase.{next_phase_of}
use Rattle.tier_steps.specs.View.{absent}
use Rattle.tier_core.specs.declared.call.Step.{Step}
use Rattle.tier_core.specs.declared.call.Step.TheVariants.{Finish}
use Rattle.tier_core.specs.Machine.{State, IsCore, view_at}
use Rattle.tier_core.specs.Run.{IsStepOfCalls, after, may_finish}
use Rattle.tier_laws.specs.Frame.{flat_of, actor}
use Rattle.tier_laws.specs.Plan.{flat_ends}
use Rattle.tier_laws.specs.Hold.{IsAwaited}
use Rattle.tier_laws.specs.Calls.{RootStays}

-- An advance begins the next phase, in which each token that has members is awaited.
pub record IsNextPhase (old new : State) : Type 0 where
  pub phase : (flat_of new).phase ≡ next_phase_of (flat_of old).phase
  pub ended : (flat_of new).ended ≡ flat_ends old
  pub awaited : (token : ℕ) → token < length old.views → 0 < (view_at old.views token).size
      → 0 < absent (flat_of new).phase (view_at new.views token)

abbrev pub AdvancesBeginThePhase : Type 0
AdvancesBeginThePhase =
    (s : State) (token : ℕ) → IsCore s → (flat_of s).ended ≡ false → may_finish s token ≡ true → IsNextPhase s (after s (Finish token))

-- Until the tree ends, an awaited token stays so while others take steps, and the root stays in its phase.
pub record IsStillAwaited (s : State) (step : Step) (token : ℕ) : Type 0 where
  pub awaited : IsAwaited (after s step) token
  pub root : RootStays s (after s step)

abbrev pub AwaitedTokensStay : Type 0
AwaitedTokensStay =
    (s : State) (step : Step) (token : ℕ) → IsCore s → IsStepOfCalls step → (flat_of (after s step)).ended ≡ false
    → (flat_of s).ended ≡ false
    → IsAwaited s token → token ≢ actor step → IsStillAwaited s step token
