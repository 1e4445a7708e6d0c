-- When the tree of a job ends (own).
use Rattle.std.specs.Prelude.{◌≡◌, ℕ, ◌+◌, ◌≤◌, true, is_some, IfSome}
use Rattle.std.specs.Option.{unwrap_or}
use Rattle.advance_rule.specs.declared.EndPlan.{EndPlan}

-- the limit of supersteps that a plan means: the tree ends in the phase of the last, and phases count from 0
abbrev pub limit_of : EndPlan → ℕ
limit_of plan = unwrap_or plan.at 0 + 1

-- the tree ends when it is empty, and at the latest in a phase that the plan names
abbrev pub IsJobPlan : EndPlan → Type 0
IsJobPlan plan = (plan.when_empty ≡ true) × (is_some plan.at ≡ true) × IfSome plan.at (λ at. at ≤ 2147483647)
