-- Trees that are given by one width for each level, and the texts of widths (own).
use Rattle.std.specs.Prelude.{◌≡◌, ℕ, zero, suc, ◌+◌, ◌*◌, ◌/◌, ◌<◌, ◌≤◌, List, [], ◌∷◌, ◌++◌, length, take, map, slice_index, codes, All}
use Rattle.std.specs.List.{range_with_len, join_with_byte}
use Rattle.std.specs.Fmt.{decimal}
use Rattle.tier_shape.specs.Parents.{parent_of}
use Rattle.tier_shape.specs.Paths.{IsTiers}
use Rattle.tier_shape.specs.Leaves.{leaves_of}

-- the numbers multiplied
abbrev pub product : List ℕ → ℕ
product [] = 1
product (x ∷ xs) = x * product xs

-- how many tiers a level has: the product of the widths above it
abbrev pub level_size : List ℕ → ℕ → ℕ
level_size widths level = product (take level widths)

-- the first tier of a level; those of the levels above come before it
abbrev pub level_start : List ℕ → ℕ → ℕ
level_start widths zero = 0
level_start widths (suc level) = level_start widths level + level_size widths level

-- how many tiers the tree of these widths has
abbrev pub tiers_of : List ℕ → ℕ
tiers_of widths = level_start widths (suc (length widths))

-- the parents of the tiers below a level, in order: each tier of the level has as many children as its width says
abbrev pub parents_below : List ℕ → ℕ → List ℕ
parents_below widths level =
    map (λ place. level_start widths level + place / slice_index widths level) (range_with_len 0 (level_size widths (suc level)))

-- the tree down to a level
abbrev pub levels_of : List ℕ → ℕ → List ℕ
levels_of widths zero = 0 ∷ []
levels_of widths (suc level) = levels_of widths level ++ parents_below widths level

-- the tree of these widths
abbrev pub tree_of : List ℕ → List ℕ
tree_of widths = levels_of widths (length widths)

-- a width is 1 to 64
abbrev pub IsWidth : ℕ → Type 0
IsWidth width = (0 < width) × (width ≤ 64)

-- `flat` for no widths; else their numbers, joined by `x`
abbrev pub widths_text : List ℕ → List ℕ
widths_text [] = codes "flat"
widths_text (width ∷ widths) = join_with_byte 120 (map decimal (width ∷ widths))

-- the text says these widths
pub record IsWidthsText (text widths : List ℕ) : Type 0 where
  pub each : All IsWidth widths
  pub says : text ≡ widths_text widths

-- the text says no widths
abbrev pub IsBadText : List ℕ → Type 0
IsBadText text = (widths : List ℕ) → IsWidthsText text widths → ⊥

-- it says over six
abbrev pub IsDeepText : List ℕ → Type 0
IsDeepText text = (widths : List ℕ) × IsWidthsText text widths × (6 < length widths)

-- it says at most six, whose tree has over 64 tiers
abbrev pub IsWideText : List ℕ → Type 0
IsWideText text = (widths : List ℕ) × IsWidthsText text widths × (length widths ≤ 6) × (64 < tiers_of widths)

-- it says at most six, whose tree has at most 64 tiers and these parents
pub record IsTreeText (text parents : List ℕ) : Type 0 where
  pub widths : List ℕ
  pub says : IsWidthsText text widths
  pub near : length widths ≤ 6
  pub few : tiers_of widths ≤ 64
  pub tree : parents ≡ tree_of widths

-- it says a tree
abbrev pub IsGoodText : List ℕ → Type 0
IsGoodText text = (parents : List ℕ) × IsTreeText text parents

-- a tree given by its levels: each level has as many tiers as the product of the widths above it, and its tiers are, in
-- order, the children of the first tier of the level above, of the second, and so on
pub record IsTreeOf (widths parents : List ℕ) : Type 0 where
  pub count : length parents ≡ tiers_of widths
  pub root : parent_of parents 0 ≡ 0
  pub child : (level place : ℕ) → level < length widths → place < level_size widths (suc level)
      → parent_of parents (level_start widths (suc level) + place) ≡ level_start widths level + place / slice_index widths level

-- each text says one list of widths at most
abbrev pub TextsSayOneTree : Type 0
TextsSayOneTree = (text widths others : List ℕ) → IsWidthsText text widths → IsWidthsText text others → widths ≡ others

-- the tree of widths has its levels
abbrev pub TreesHaveTheirLevels : Type 0
TreesHaveTheirLevels = (widths : List ℕ) → All IsWidth widths → IsTreeOf widths (tree_of widths)

-- its leaves are its last level, as many as the product of the widths
abbrev pub LeavesAreTheLastLevel : Type 0
LeavesAreTheLastLevel =
    (widths : List ℕ) → All IsWidth widths
    → leaves_of (tree_of widths) ≡ range_with_len (level_start widths (length widths)) (product widths)

-- what a text says is a shape, and so taken as a list of parents too
abbrev pub TextsSayShapes : Type 0
TextsSayShapes = (text parents : List ℕ) → IsTreeText text parents → IsTiers parents
