-- What plans say, field by field: when a phaser ends (own; Java SE 21 leaves it to `Phaser.onAdvance`).
use Rattle.std.specs.Prelude.{◌≡◌, ◌⊎◌, ◌↔◌, ◌<◌, ℕ, Bool, true, false, Option, None, Some}
use Rattle.advance_rule.specs.declared.CountPlan.{CountPlan}
use Rattle.advance_rule.specs.declared.EndPlan.{EndPlan}
use Rattle.advance_rule.specs.Plan.{count_ends, end_ends, end_ends_at}

abbrev pub count_plan : ℕ → Option ℕ → CountPlan
count_plan least at = record { least = least; at = at }

abbrev pub end_plan : Bool → Option ℕ → EndPlan
end_plan when_empty at = record { when_empty = when_empty; at = at }

-- A phaser by a plan of counts ends exactly with fewer parties than the least, or in the one phase that the plan names.
pub record CountPlansAreSpelledOut : Type 0 where
  pub ends : (plan : CountPlan) (phase count : ℕ) → (count_ends plan phase count ≡ true) ↔ ((count < plan.least) ⊎ (plan.at ≡ Some phase))
  pub default : (count_ends (count_plan 1 None) 9 0 ≡ true) × (count_ends (count_plan 1 None) 9 1 ≡ false)
  pub least : (count_ends (count_plan 2 None) 0 1 ≡ true) × (count_ends (count_plan 2 None) 0 2 ≡ false)
      × (count_ends (count_plan 2 None) 0 3 ≡ false)
  pub at : (count_ends (count_plan 0 (Some 5)) 4 3 ≡ false) × (count_ends (count_plan 0 (Some 5)) 5 3 ≡ true)
      × (count_ends (count_plan 0 (Some 5)) 6 3 ≡ false)
  pub goes_on : count_ends (count_plan 0 None) 2147483647 0 ≡ false

-- A tree ends exactly if nobody is registered and the plan says that it ends then, or in the one phase that the plan
-- names.
pub record EndPlansAreSpelledOut : Type 0 where
  pub ends : (plan : EndPlan) (phase : ℕ) (empty : Bool)
      → (end_ends plan phase empty ≡ true) ↔ (((empty ≡ true) × (plan.when_empty ≡ true)) ⊎ (plan.at ≡ Some phase))
  pub counted : (plan : EndPlan) (phase count : ℕ)
      → (end_ends_at plan phase count ≡ true) ↔ (((count ≡ 0) × (plan.when_empty ≡ true)) ⊎ (plan.at ≡ Some phase))
  pub default : (end_ends (end_plan true None) 9 true ≡ true) × (end_ends (end_plan true None) 9 false ≡ false)
  pub stays : (end_ends (end_plan false None) 9 true ≡ false) × (end_ends (end_plan false None) 9 false ≡ false)
  pub at : (end_ends (end_plan false (Some 5)) 4 false ≡ false) × (end_ends (end_plan false (Some 5)) 5 false ≡ true)
      × (end_ends (end_plan false (Some 5)) 6 true ≡ false)

pub record PlansAreSpelledOut : Type 0 where
  pub counts : CountPlansAreSpelledOut
  pub trees : EndPlansAreSpelledOut
