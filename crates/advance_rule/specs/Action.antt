-- When the action of a barrier fails (own; Java SE 21's `CyclicBarrier` lets an action throw).
use Rattle.std.specs.Prelude.{◌≡◌, ℕ, ◌≤◌, Bool, Option, None, Some, false, ◌==◌}

-- whether it fails in this generation: it does in one generation, or in none
abbrev pub fails_at : Option ℕ → ℕ → Bool
fails_at None generation = false
fails_at (Some at) generation = generation == at

-- A closure of a generation, given by what its calls require and give: it may be called in every generation, and
-- answers there whether the action fails.
pub record AnswersAction (pre : ℕ → Type 0) (post : ℕ → Bool → Type 0) (fails : Option ℕ) : Type 0 where
  pub callable : (generation : ℕ) → generation ≤ 18446744073709551615 → pre generation
  pub answers : (generation : ℕ) (b : Bool) → generation ≤ 18446744073709551615 → post generation b → b ≡ fails_at fails generation
