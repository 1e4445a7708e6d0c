-- Trees of tiers as lists of parents (own).
use Rattle.std.specs.Prelude.{◌≡◌, ℕ, ◌<◌, List, length, slice_index}

-- the parent that the list names for a tier; the root, tier 0, names itself
abbrev pub parent_of : List ℕ → ℕ → ℕ
parent_of parents tier = slice_index parents tier

-- every tier but the root has an earlier one as its parent
pub record IsShape (parents : List ℕ) : Type 0 where
  pub some : 0 < length parents
  pub root : parent_of parents 0 ≡ 0
  pub earlier : (tier : ℕ) → 0 < tier → tier < length parents → parent_of parents tier < tier
