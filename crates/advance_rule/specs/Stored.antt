-- A closure beside the plan that it answers (own).
use Rattle.std.specs.Prelude.{◌≡◌, ℕ, ◌≤◌, Bool}

-- what contracts see of a stored closure
pub record Stored (F Plan : Type 0) : Type 0 where
  pub closure : F
  pub plan : Plan

-- A closure of a phase and a count, given by what its calls require and give: it may be called at every phase and every
-- count, and answers there what the plan says.
pub record Answers (pre : ℕ → ℕ → Type 0) (post : ℕ → ℕ → Bool → Type 0) (ends : ℕ → ℕ → Bool) : Type 0 where
  pub callable : (phase count : ℕ) → phase ≤ 2147483647 → count ≤ 65535 → pre phase count
  pub answers : (phase count : ℕ) (b : Bool) → phase ≤ 2147483647 → count ≤ 65535 → post phase count b → b ≡ ends phase count
