-- When the root advances, and what its plan is asked (own).
use Rattle.std.specs.Prelude.{◌≡◌, ℕ, ◌<◌, ◌==◌, Bool, true, false, Some}
use Rattle.std.specs.List.{AllByRecursion}
use Rattle.advance_rule.specs.Plan.{end_ends}
use Rattle.flat_phaser.specs.declared.FlatStep.TheVariants as flat
use Rattle.flat_phaser.specs.Flat.{registered, unarrived}
use Rattle.tier_steps.specs.declared.view.Errand.TheVariants.{Rest}
use Rattle.tier_steps.specs.declared.kind.Kind.TheVariants.{Advance}
use Rattle.tier_core.specs.Machine.{State, IsCore}
use Rattle.tier_core.specs.declared.call.Step.{Step}
use Rattle.tier_core.specs.Run.{may_finish, finish_at, plan_ends, step_label}
use Rattle.tier_laws.specs.Frame.{flat_of}

-- what the plan says of the flat phase, and of whether there is no member
abbrev pub flat_ends : State → Bool
flat_ends s = end_ends s.plan (flat_of s).phase (registered (flat_of s) == 0)

-- an advance that is due, and ends the phaser exactly if the plan says so
pub record IsPlanned (s : State) (end : Bool) : Type 0 where
  pub due : (flat_of s).due ≡ true
  pub ends : end ≡ flat_ends s

-- A step of a run is the flat advance only if that is due, and as the plan says.
abbrev pub AdvancesArePlanned : Type 0
AdvancesArePlanned =
    (s : State) (step : Step) (ends : Bool) → IsCore s → (flat_of s).ended ≡ false → step_label s step ≡ Some (flat.Advance ends)
    → IsPlanned s ends

-- what the token that has to advance does
pub record IsLastStep (s : State) (token : ℕ) : Type 0 where
  pub kind : (finish_at s token (plan_ends s)).kind ≡ Advance (flat_ends s)
  pub due : (flat_of s).due ≡ true

-- A token that has to advance the root finds it due, and asks the plan of the flat phase and of whether there is no member.
abbrev pub TheLastOneAdvances : Type 0
TheLastOneAdvances = (s : State) (token : ℕ) → IsCore s → (flat_of s).ended ≡ false → may_finish s token ≡ true → IsLastStep s token

-- If no token has an errand nothing is due.
abbrev pub QuietTreesWait : Type 0
QuietTreesWait = (s : State) → AllByRecursion (λ v. v.errand ≡ Rest) s.views → (flat_of s).due ≡ false

-- It isn't due since it waits for somebody: if the tree goes on and there is a member, one hasn't arrived.
abbrev pub QuietTreesAwaitSomebody : Type 0
QuietTreesAwaitSomebody =
    (s : State) → IsCore s → (flat_of s).ended ≡ false → AllByRecursion (λ v. v.errand ≡ Rest) s.views → 0 < registered (flat_of s)
    → 0 < unarrived (flat_of s)
