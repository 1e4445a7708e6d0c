-- The leaves of a tree of tiers (own).
use Rattle.std.specs.Prelude.{◌≢◌, ℕ, ◌-◌, ◌<◌, ◌↔◌, ◌==◌, Bool, ◌&&◌, ◌||◌, not, nat_lt, List, length, filter, Contains}
use Rattle.std.specs.List.{list_all, range_with_len}
use Rattle.std.specs.List.Sorted.{IsStrictlyIncreasing}
use Rattle.tier_shape.specs.Parents.{parent_of, IsShape}

-- a leaf: a tier that is no other tier's parent
pub record IsLeaf (parents : List ℕ) (tier : ℕ) : Type 0 where
  pub within : tier < length parents
  pub childless : (other : ℕ) → other < length parents → other ≢ tier → parent_of parents other ≢ tier

-- the same as a test
abbrev pub is_leaf_of : List ℕ → ℕ → Bool
is_leaf_of parents tier =
    nat_lt tier (length parents)
    && list_all (λ other. (other == tier) || not (parent_of parents other == tier)) (range_with_len 0 (length parents))

-- the leaves, in rising order
abbrev pub leaves_of : List ℕ → List ℕ
leaves_of parents = filter (is_leaf_of parents) (range_with_len 0 (length parents))

-- the leaves of a tree are exactly its tiers without a child, and they rise
pub record IsLeavesOf (parents : List ℕ) (leaves : List ℕ) : Type 0 where
  pub exact : (tier : ℕ) → Contains leaves tier ↔ IsLeaf parents tier
  pub rising : IsStrictlyIncreasing leaves

abbrev pub LeavesAreChildless : Type 0
LeavesAreChildless = (parents : List ℕ) → IsLeavesOf parents (leaves_of parents)

-- A tree has a leaf: its last tier is one.
abbrev pub TreesHaveALeaf : Type 0
TreesHaveALeaf = (parents : List ℕ) → IsShape parents → IsLeaf parents (length parents - 1) × (0 < length (leaves_of parents))
