-- A run of a body that hasn't begun (own).
use Rattle.std.specs.Prelude.{ℕ, ℤ, ◌≤◌, List, []}
use Rattle.programs.specs.History.{Setup}
use Rattle.task_bodies.specs.Bodies.{Left, MemberValue, member_setup, numbered}

-- the body, the arrays, what the start tasks keep, how many tasks may live at once, and how many supersteps are taken at most
pub record RunValue (B K : Type 0) : Type 0 where
  pub body : B
  pub arrays : List (List ℕ × List ℤ)
  pub tasks : List K
  pub most : ℕ
  pub limit : ℕ

-- the setup of its run: each member may leave what the body may leave
abbrev pub setup_in : {B K : Type 0} → (B → List ℕ → List (List ℕ × List ℤ) → ℕ → K → Left K → Type 0) → RunValue B K
    → Setup (MemberValue K)
setup_in may r = member_setup (may r.body) r.most r.arrays (numbered [] 0 r.tasks) r.limit

-- how many tasks and supersteps a run may have
pub record AreLimits (most limit : ℕ) : Type 0 where
  pub tasks : most ≤ 65535
  pub supersteps : 1 ≤ limit
  pub phases : limit ≤ 2147483648
