-- The tree of widths is a shape: its parents come earlier, and a tier's path goes up level by level.
use Rattle.std.proofs.Common.{◌≡◌, ℕ, zero, suc, ◌+◌, ◌-◌, ◌*◌, ◌/◌, ◌<◌, ◌≤◌, List, ◌++◌, length, get_or, All, refl, sym, ap, ◌∙◌, subst, arith, inl, inr}
use Rattle.std.proofs.lemmas.Bool.{cases_lt}
use Rattle.std.proofs.lemmas.List.{get_or_append_left, get_or-append-add}
use Rattle.std.proofs.lemmas.List.FromFn.{get_or-map-range_with_len}
use Rattle.std.proofs.Math.Nat.{div-lt_iff_lt-mul}
use Rattle.tier_shape.specs.Parents.{parent_of, IsShape}
use Rattle.tier_shape.specs.Paths.{path_of, IsTiers}
use Rattle.tier_shape.specs.Widths.{level_size, level_start, tiers_of, parents_below, levels_of, tree_of, IsWidth, IsWidthsText, IsTreeText, IsTreeOf}
use Rattle.tier_shape.proofs.Going.{length-path}
use Rattle.tier_shape.proofs.Levels.{level_size_more, level_start_grows, length-levels}

pub start_some : (ws : List ℕ) (level : ℕ) → 0 < level_start ws (suc level)
start_some ws zero = omega arith
start_some ws (suc level) = let h = start_some ws level in omega (arith, h)

last_at : (ws : List ℕ) (m place : ℕ) → place < level_size ws (suc m)
    → parent_of (levels_of ws (suc m)) (level_start ws (suc m) + place) ≡ level_start ws m + place / get_or ws m 0
last_at ws m place h =
    ap (λ n. get_or (levels_of ws m ++ parents_below ws m) (n + place) 0) (sym (length-levels ws m))
    ∙ get_or-append-add (levels_of ws m) (parents_below ws m) place 0
    ∙ get_or-map-range_with_len (λ place. level_start ws m + place / get_or ws m 0) 0 (level_size ws (suc m)) place place 0 h (omega arith)

-- the parent of each tier below the root
pub below_at : (ws : List ℕ) (m level place : ℕ) → level < m → place < level_size ws (suc level)
    → parent_of (levels_of ws m) (level_start ws (suc level) + place) ≡ level_start ws level + place / get_or ws level 0
below_at ws zero level place h p = absurd (omega arith)
below_at ws (suc m) level place h p = elim (cases_lt level m) [
  | inl before ↦
      let grows = level_start_grows ws (suc (suc level)) (suc m) (omega arith) in
      let within : level_start ws (suc level) + place < length (levels_of ws m) = omega (arith, grows, length-levels ws m) in
      get_or_append_left (levels_of ws m) (parents_below ws m) 0 (level_start ws (suc level) + place) within
      ∙ below_at ws m level place before p
  | inr after ↦
      let e : m ≡ level = omega arith in
      let P : ℕ → Type 0 =
      λ l. place < level_size ws (suc l)
      → parent_of (levels_of ws (suc m)) (level_start ws (suc l) + place) ≡ level_start ws l + place / get_or ws l 0 in
      subst P e (last_at ws m place) p
]

pub root_at : (ws : List ℕ) (m : ℕ) → parent_of (levels_of ws m) 0 ≡ 0
root_at ws zero = refl
root_at ws (suc m) =
    let within : 0 < length (levels_of ws m) = let h = start_some ws m in omega (arith, h, length-levels ws m) in
    get_or_append_left (levels_of ws m) (parents_below ws m) 0 0 within ∙ root_at ws m

-- a tier and its level
pub record IsOnLevel (ws : List ℕ) (levels tier : ℕ) : Type 0 where
  pub level : ℕ
  pub place : ℕ
  pub below : level < levels
  pub within : place < level_size ws level
  pub is : level_start ws level + place ≡ tier

pub level_of_tier : (ws : List ℕ) (m tier : ℕ) → tier < level_start ws m → IsOnLevel ws m tier
level_of_tier ws zero tier h = absurd (omega arith)
level_of_tier ws (suc m) tier h = elim (cases_lt tier (level_start ws m)) [
  | inl before ↦
      let on = level_of_tier ws m tier before in
      record { level = on.level; place = on.place; below = omega (arith, on.below); within = on.within; is = on.is }
  | inr here ↦ record { level = m; place = tier - level_start ws m; below = omega arith; within = omega arith; is = omega arith }
]

-- a place on a level is below a place on the level above
pub place_above : (ws : List ℕ) (level place : ℕ) → All IsWidth ws → level < length ws → place < level_size ws (suc level)
    → place / get_or ws level 0 < level_size ws level
place_above ws level place all within h =
    let w = all level 0 within in
    let below : place < level_size ws level * get_or ws level 0 = omega (arith, level_size_more ws level within) in
    (div-lt_iff_lt-mul {k = get_or ws level 0} {x = place} {y = level_size ws level} w.0).1 below

earlier_at : (ws : List ℕ) (level place tier : ℕ) → All IsWidth ws → level ≤ length ws → place < level_size ws level
    → level_start ws level + place ≡ tier → 0 < tier → parent_of (tree_of ws) tier < tier
earlier_at ws zero place tier all h p is some = absurd (omega arith)
earlier_at ws (suc level) place tier all h p is some =
    let up = ap (parent_of (tree_of ws)) (sym is) ∙ below_at ws (length ws) level place h p in
    let above = place_above ws level place all h p in
    omega (arith, up, above)

pub tree_shape : (ws : List ℕ) → All IsWidth ws → IsShape (tree_of ws)
tree_shape ws all = record {
  some = let h = start_some ws (length ws) in omega (arith, h, length-levels ws (length ws));
  root = root_at ws (length ws);
  earlier = λ tier some within.
      let on = level_of_tier ws (suc (length ws)) tier (omega (arith, length-levels ws (length ws))) in
      earlier_at ws on.level on.place tier all (omega (arith, on.below)) on.within on.is some;
}

-- a tier of a level has this many above it
pub level_path : (ws : List ℕ) (level place : ℕ) → All IsWidth ws → level ≤ length ws → place < level_size ws level
    → length (path_of (tree_of ws) (level_start ws level + place)) ≡ suc level
level_path ws zero place all h p = let e : 0 + place ≡ 0 = omega arith in ap (λ t. length (path_of (tree_of ws) t)) e
level_path ws (suc level) place all h p =
    let grows = level_start_grows ws (suc (suc level)) (suc (length ws)) (omega arith) in
    let within : level_start ws (suc level) + place < length (tree_of ws) = omega (arith, grows, length-levels ws (length ws)) in
    let some : 0 < level_start ws (suc level) + place = let h = start_some ws level in omega (arith, h) in
    let one = length-path (tree_of ws) (level_start ws (suc level) + place) (tree_shape ws all) within some in
    let up = ap (λ t. length (path_of (tree_of ws) t)) (below_at ws (length ws) level place h p) in
    let rest = level_path ws level (place / get_or ws level 0) all (omega arith) (place_above ws level place all h p) in
    omega (arith, one, up, rest)

pub tree_tiers : (ws : List ℕ) → All IsWidth ws → length ws ≤ 6 → tiers_of ws ≤ 64 → IsTiers (tree_of ws)
tree_tiers ws all near few = record {
  shape = tree_shape ws all;
  few = omega (arith, length-levels ws (length ws));
  short = λ tier within.
      let on = level_of_tier ws (suc (length ws)) tier (omega (arith, length-levels ws (length ws))) in
      let long = level_path ws on.level on.place all (omega (arith, on.below)) on.within in
      let same = ap (λ t. length (path_of (tree_of ws) t)) on.is in
      omega (arith, long, same, on.below);
}

pub tree_levels : (ws : List ℕ) → All IsWidth ws → IsTreeOf ws (tree_of ws)
tree_levels ws all = record {
  count = length-levels ws (length ws);
  root = root_at ws (length ws);
  child = λ level place h p. below_at ws (length ws) level place h p;
}

-- what a text says is a shape
pub says_shape : (text parents : List ℕ) → IsTreeText text parents → IsTiers parents
says_shape text parents says = subst IsTiers (sym says.tree) (tree_tiers says.widths says.says.each says.near says.few)

-- the tree that is made of the widths of a text, seen twice as a slice
pub made_of : (text ws seen again parents : List ℕ) → IsWidthsText text ws × (length ws ≤ 6) → seen ≡ ws → again ≡ ws → tiers_of seen ≤ 64
    → parents ≡ tree_of again → IsTreeText text parents
made_of text ws seen again parents said seen-is again-is few made = record {
  widths = ws;
  says = said.0;
  near = said.1;
  few = let e = ap tiers_of seen-is in omega (arith, e);
  tree = made ∙ ap tree_of again-is;
}
