-- The leaves of the tree of widths are its last level.
use Rattle.std.proofs.Common.{◌≡◌, ℕ, zero, suc, ◌+◌, ◌*◌, ◌<◌, ◌≤◌, Bool, true, false, List, [], ◌∷◌, ◌++◌, length, get_or, All, refl, sym, ap, ◌∙◌, arith, inl, inr}
use Rattle.std.specs.List.{range_with_len, filter}
use Rattle.std.proofs.lemmas.Bool.{cases_lt, cond-true, cond-false, false_from_ne_true}
use Rattle.std.proofs.lemmas.List.{take_all}
use Rattle.std.proofs.lemmas.List.Elements.{filter-append}
use Rattle.std.proofs.Math.Nat.{mul-div_cancel, mul-lt-mul_of_pos_right}
use Rattle.tier_shape.specs.Parents.{parent_of}
use Rattle.tier_shape.specs.Leaves.{IsLeaf, is_leaf_of, leaves_of}
use Rattle.tier_shape.specs.Widths.{product, level_size, level_start, tiers_of, tree_of, IsWidth}
use Rattle.tier_shape.proofs.Childless.{leaf_passes, passes_leaf}
use Rattle.tier_shape.proofs.Levels.{level_size_more, level_start_grows, length-levels}
use Rattle.tier_shape.proofs.TreeShape.{level_of_tier, below_at, place_above, root_at}

range_split : (m n a : ℕ) → range_with_len a (m + n) ≡ range_with_len a m ++ range_with_len (a + m) n
range_split zero n a = let e : 0 + n ≡ n = omega arith in
    let f : a + 0 ≡ a = omega arith in
    ap (range_with_len a) e ∙ ap (λ b. range_with_len b n) (sym f)
range_split (suc m) n a =
    let e : suc m + n ≡ suc (m + n) = omega arith in
    let f : a + 1 + m ≡ a + suc m = omega arith in
    ap (range_with_len a) e ∙ ap (λ xs. a ∷ xs) (range_split m n (a + 1) ∙ ap (λ b. range_with_len (a + 1) m ++ range_with_len b n) f)

none_kept : (p : ℕ → Bool) (n a : ℕ) → ((x : ℕ) → a ≤ x → x < a + n → p x ≡ false) → filter p (range_with_len a n) ≡ []
none_kept p zero a each = refl
none_kept p (suc n) a each =
    cond-false (p a) (a ∷ filter p (range_with_len (a + 1) n)) (filter p (range_with_len (a + 1) n)) (each a (omega arith) (omega arith))
    ∙ none_kept p n (a + 1) (λ x from below. each x (omega arith) (omega arith))

all_kept : (p : ℕ → Bool) (n a : ℕ) → ((x : ℕ) → a ≤ x → x < a + n → p x ≡ true) → filter p (range_with_len a n) ≡ range_with_len a n
all_kept p zero a each = refl
all_kept p (suc n) a each =
    cond-true (p a) (a ∷ filter p (range_with_len (a + 1) n)) (filter p (range_with_len (a + 1) n)) (each a (omega arith) (omega arith))
    ∙ ap (λ xs. a ∷ xs) (all_kept p n (a + 1) (λ x from below. each x (omega arith) (omega arith)))

-- the parent of a tier below the root is above the last level
parent_high : (ws : List ℕ) (level place : ℕ) → All IsWidth ws → level ≤ length ws → place < level_size ws level
    → 0 < level_start ws level + place
    → parent_of (tree_of ws) (level_start ws level + place) < level_start ws (length ws)
parent_high ws zero place all h p some = absurd (omega arith)
parent_high ws (suc level) place all h p some =
    let up = below_at ws (length ws) level place h p in
    let above = place_above ws level place all h p in
    let grows = level_start_grows ws (suc level) (length ws) h in
    omega (arith, up, above, grows)

last_is_leaf : (ws : List ℕ) (tier : ℕ) → All IsWidth ws → level_start ws (length ws) ≤ tier → tier < tiers_of ws → IsLeaf (tree_of ws) tier
last_is_leaf ws tier all low high = record {
  within = omega (arith, length-levels ws (length ws));
  childless = λ other within apart child.
      elim (cases_lt 0 other) [
        | inl some ↦
            let on = level_of_tier ws (suc (length ws)) other (omega (arith, length-levels ws (length ws))) in
            let up = parent_high ws on.level on.place all (omega (arith, on.below)) on.within (omega (arith, on.is)) in
            let same = ap (parent_of (tree_of ws)) on.is in
            omega (arith, up, same)
        | inr none ↦
            let root : other ≡ 0 = omega arith in
            apart (root ∙ sym (root_at ws (length ws)) ∙ ap (parent_of (tree_of ws)) (sym root) ∙ child)
      ];
}

-- a tier above the last level has a child
inner_is_none : (ws : List ℕ) (tier : ℕ) → All IsWidth ws → tier < level_start ws (length ws) → IsLeaf (tree_of ws) tier → ⊥
inner_is_none ws tier all h leaf =
    let on = level_of_tier ws (length ws) tier h in
    let some = all on.level 0 on.below in
    let less : on.place * get_or ws on.level 0 < level_size ws on.level * get_or ws on.level 0 =
    mul-lt-mul_of_pos_right {m = on.place} {n = level_size ws on.level} {k = get_or ws on.level 0} on.within some.0 in
    let on_next : on.place * get_or ws on.level 0 < level_size ws (suc on.level) =
    omega (arith, level_size_more ws on.level on.below, less) in
    let grows = level_start_grows ws (suc (suc on.level)) (suc (length ws)) (omega (arith, on.below)) in
    let within : level_start ws (suc on.level) + on.place * get_or ws on.level 0 < length (tree_of ws) =
    omega (arith, grows, length-levels ws (length ws), on_next) in
    let parent : parent_of (tree_of ws) (level_start ws (suc on.level) + on.place * get_or ws on.level 0) ≡ tier =
    below_at ws (length ws) on.level (on.place * get_or ws on.level 0) on.below on_next
    ∙ ap (λ n. level_start ws on.level + n) (mul-div_cancel on.place {n = get_or ws on.level 0} some.0) ∙ on.is in
    leaf.childless (level_start ws (suc on.level) + on.place * get_or ws on.level 0) within (λ same. omega (arith, on.is, on.within)) parent

pub last_level : (ws : List ℕ) → All IsWidth ws → leaves_of (tree_of ws) ≡ range_with_len (level_start ws (length ws)) (product ws)
last_level ws all =
    let tree = tree_of ws in
    let m = level_start ws (length ws) in
    let n = level_size ws (length ws) in
    let front : filter (is_leaf_of tree) (range_with_len 0 m) ≡ [] =
    none_kept (is_leaf_of tree) m 0
    (λ x from below. false_from_ne_true (is_leaf_of tree x) (λ passes. inner_is_none ws x all (omega arith) (passes_leaf tree x passes))) in
    let back : filter (is_leaf_of tree) (range_with_len (0 + m) n) ≡ range_with_len (0 + m) n =
    all_kept (is_leaf_of tree) n (0 + m) (λ x from below. leaf_passes tree x (last_is_leaf ws x all (omega arith) (omega arith))) in
    let e : 0 + m ≡ m = omega arith in
    ap (λ k. filter (is_leaf_of tree) (range_with_len 0 k)) (length-levels ws (length ws))
    ∙ ap (filter (is_leaf_of tree)) (range_split m n 0)
    ∙ filter-append (is_leaf_of tree) (range_with_len 0 m) (range_with_len (0 + m) n)
    ∙ ap (λ xs. xs ++ filter (is_leaf_of tree) (range_with_len (0 + m) n)) front ∙ back
    ∙ ap (λ a. range_with_len a n) e
    ∙ ap (λ xs. range_with_len m (product xs)) (take_all (length ws) ws (omega arith))
