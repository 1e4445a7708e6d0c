-- The way from a tier up to the root, and how far it may be (own).
use Rattle.std.specs.Prelude.{◌≡◌, ℕ, zero, suc, ◌+◌, ◌-◌, ◌<◌, ◌≤◌, ◌==◌, if◌then◌else◌, List, [], ◌∷◌, length, slice_index}
use Rattle.tier_shape.specs.Parents.{parent_of, IsShape}

-- the tier and those above it, each followed by its parent, up to the root, in at most this many steps
abbrev pub path_within : ℕ → List ℕ → ℕ → List ℕ
path_within zero parents tier = tier ∷ []
path_within (suc steps) parents tier = if tier == 0 then tier ∷ [] else tier ∷ path_within steps parents (parent_of parents tier)

-- the path from a tier up to the root; each step goes to an earlier tier, so the tier's number of steps is enough
abbrev pub path_of : List ℕ → ℕ → List ℕ
path_of parents tier = path_within tier parents tier

-- a list of tiers from this one up to the root, each followed by its parent, which comes earlier
pub record IsPathUp (parents : List ℕ) (tier : ℕ) (path : List ℕ) : Type 0 where
  pub some : 0 < length path
  pub first : slice_index path 0 ≡ tier
  pub parent : (place : ℕ) → place + 1 < length path → slice_index path (place + 1) ≡ parent_of parents (slice_index path place)
  pub falls : (place : ℕ) → place + 1 < length path → slice_index path (place + 1) < slice_index path place
  pub last : slice_index path (length path - 1) ≡ 0

-- what every shape keeps: earlier parents, at most 64 tiers, and at most 6 levels below the root
pub record IsTiers (parents : List ℕ) : Type 0 where
  pub shape : IsShape parents
  pub few : length parents ≤ 64
  pub short : (tier : ℕ) → tier < length parents → length (path_of parents tier) ≤ 7

-- some tier is over 6 levels below the root
abbrev pub IsTooDeep : List ℕ → Type 0
IsTooDeep parents = (tier : ℕ) × (tier < length parents) × (7 < length (path_of parents tier))

-- each path goes up by parents, falls at each step, and ends at the root
abbrev pub PathsGoUp : Type 0
PathsGoUp = (parents : List ℕ) (tier : ℕ) → IsShape parents → tier < length parents → IsPathUp parents tier (path_of parents tier)
