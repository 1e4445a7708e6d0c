-- When a phaser ends at an advance: what Java SE 21 leaves to `Phaser.onAdvance`, as a plan (own).
use Rattle.std.specs.Prelude.{ℕ, Bool, Option, None, Some, false, nat_lt, ◌==◌, ◌||◌, ◌&&◌}
use Rattle.advance_rule.specs.declared.CountPlan.{CountPlan}
use Rattle.advance_rule.specs.declared.EndPlan.{EndPlan}

-- whether a phase is the one that a plan names
abbrev pub is_at : Option ℕ → ℕ → Bool
is_at None phase = false
is_at (Some at) phase = phase == at

-- it ends with fewer parties than the least, or in the phase that the plan names
abbrev pub count_ends : CountPlan → ℕ → ℕ → Bool
count_ends plan phase count = nat_lt count plan.least || is_at plan.at phase

-- it ends when nobody is registered, if the plan says so, or in the phase that the plan names
abbrev pub end_ends : EndPlan → ℕ → Bool → Bool
end_ends plan phase empty = (empty && plan.when_empty) || is_at plan.at phase

-- the same of a count
abbrev pub end_ends_at : EndPlan → ℕ → ℕ → Bool
end_ends_at plan phase count = end_ends plan phase (count == 0)
