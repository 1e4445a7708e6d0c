-- The leaves of the tree of a run (own).
use Rattle.std.specs.Prelude.{◌≡◌, ℕ, ◌<◌, ◌≤◌, List, length}
use Rattle.tier_shape.specs.Leaves.{leaves_of}

-- these are the leaves of a shape, which has some, and at most 64
pub record AreLeaves (shape tiers : List ℕ) : Type 0 where
  pub all : tiers ≡ leaves_of shape
  pub some : 0 < length tiers
  pub few : length tiers ≤ 64
