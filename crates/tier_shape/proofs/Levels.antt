-- The levels of a tree of widths: how large they are, the tier at which each begins, and who is whose parent.
use Rattle.std.proofs.Common.{◌≡◌, ℕ, zero, suc, ◌+◌, ◌*◌, ◌/◌, ◌<◌, ◌≤◌, List, [], ◌∷◌, ◌++◌, length, get_or, map, All, sym, ap, ◌∙◌, arith, inl, inr, length-append, mul_assoc, append_assoc, suc-mul}
use Rattle.std.specs.List.{range_with_len}
use Rattle.std.proofs.lemmas.Bool.{cases_lt}
use Rattle.std.proofs.lemmas.List.FromFn.{length-map-range_with_len, map-range_with_len_more}
use Rattle.tier_shape.specs.Widths.{level_size, level_start, tiers_of, parents_below, levels_of, IsWidth}
use Rattle.tier_shape.proofs.Joined.{all_head, all_tail}

pub level_size_more : (ws : List ℕ) (level : ℕ) → level < length ws → level_size ws (suc level) ≡ level_size ws level * get_or ws level 0
level_size_more [] level h = absurd (omega arith)
level_size_more (w ∷ ws) zero h = omega arith
level_size_more (w ∷ ws) (suc level) h =
    ap (λ n. w * n) (level_size_more ws level (omega arith)) ∙ sym (mul_assoc w (level_size ws level) (get_or ws level 0))

pub level_start_grows : (ws : List ℕ) (a b : ℕ) → a ≤ b → level_start ws a ≤ level_start ws b
level_start_grows ws a zero h = let e : a ≡ 0 = omega arith in let f = ap (level_start ws) e in omega (arith, f)
level_start_grows ws a (suc b) h = elim (cases_lt b a) [
  | inl last ↦ let e : a ≡ suc b = omega arith in let f = ap (level_start ws) e in omega (arith, f)
  | inr more ↦ let before = level_start_grows ws a b more in omega (arith, before)
]

mul_some : (m n : ℕ) → 0 < m → 0 < n → 0 < m * n
mul_some (suc m) (suc n) a b = rw suc-mul (omega arith)
mul_some zero n a b = absurd (omega arith)
mul_some (suc m) zero a b = absurd (omega arith)

pub size_some : (ws : List ℕ) (level : ℕ) → All IsWidth ws → 0 < level_size ws level
size_some ws zero all = omega arith
size_some [] (suc level) all = omega arith
size_some (w ∷ ws) (suc level) all =
    let first = all_head IsWidth w ws all in
    let rest = size_some ws level (all_tail IsWidth w ws all) in
    mul_some w (level_size ws level) first.0 rest

pub length-levels : (ws : List ℕ) (m : ℕ) → length (levels_of ws m) ≡ level_start ws (suc m)
length-levels ws zero = omega arith
length-levels ws (suc m) =
    length-append (levels_of ws m) (parents_below ws m)
    ∙ ap (λ n. n + length (parents_below ws m)) (length-levels ws m)
    ∙ ap (λ n. level_start ws (suc m) + n)
    (length-map-range_with_len (λ place. level_start ws m + place / get_or ws m 0) 0 (level_size ws (suc m)))

-- one more level counted
pub count_next : (ws : List ℕ) (level width size count : ℕ) → level < length ws → width ≡ get_or ws level 0 → size ≡ level_size ws level
    → count ≡ level_start ws (suc level)
    → (size * width ≡ level_size ws (suc level)) × (count + size * width ≡ level_start ws (suc (suc level)))
count_next ws level width size count within w-is size-is count-is =
    let grown : size * width ≡ level_size ws (suc level) =
    ap (λ n. n * width) size-is ∙ ap (λ n. level_size ws level * n) w-is ∙ sym (level_size_more ws level within) in
    (grown, omega (arith, grown, count-is))

-- a count that is over 64 stays so
pub stays_over : (ws : List ℕ) (level count : ℕ) → level < length ws → count ≡ level_start ws (suc (suc level)) → 64 < count
    → tiers_of ws ≤ 64 → ⊥
stays_over ws level count within count-is over few =
    let grows = level_start_grows ws (suc (suc level)) (suc (length ws)) (omega arith) in omega (arith, grows)

pub room_for : (ws : List ℕ) (level first width size : ℕ) → level < length ws → tiers_of ws ≤ 64 → width ≡ get_or ws level 0
    → first ≡ level_start ws level → size ≡ level_size ws level
    → first + size + size * width ≤ 64
room_for ws level first width size within few w-is first-is size-is =
    let next = count_next ws level width size (first + size) within w-is size-is (omega arith) in
    let grows = level_start_grows ws (suc (suc level)) (suc (length ws)) (omega arith) in omega (arith, next.1, grows)

-- one more level put after the others
pub level_pushed : (ws : List ℕ) (level first width children : ℕ) (before after : List ℕ) → before ≡ levels_of ws level
    → first ≡ level_start ws level → width ≡ get_or ws level 0
    → children ≡ level_size ws (suc level) → after ≡ before ++ map (λ place. first + place / width) (range_with_len 0 children)
    → after ≡ levels_of ws (suc level)
level_pushed ws level first width children before after before-is first-is w-is children-is pushed =
    pushed ∙ ap (λ l. l ++ map (λ place. first + place / width) (range_with_len 0 children)) before-is
    ∙ ap (λ f. levels_of ws level ++ map (λ place. f + place / width) (range_with_len 0 children)) first-is
    ∙ ap (λ w. levels_of ws level ++ map (λ place. level_start ws level + place / w) (range_with_len 0 children)) w-is
    ∙ ap (λ n. levels_of ws level ++ map (λ place. level_start ws level + place / get_or ws level 0) (range_with_len 0 n)) children-is

-- one more child put after the others
pub child_pushed : (f : ℕ → ℕ) (n : ℕ) (begin before after : List ℕ) → before ≡ begin ++ map f (range_with_len 0 n)
    → after ≡ before ++ (f n ∷ []) → after ≡ begin ++ map f (range_with_len 0 (n + 1))
child_pushed f n begin before after before-is pushed =
    pushed ∙ ap (λ l. l ++ (f n ∷ [])) before-is ∙ append_assoc begin (map f (range_with_len 0 n)) (f n ∷ [])
    ∙ ap (λ l. begin ++ l) (sym (map-range_with_len_more f 0 n n (omega arith)))
