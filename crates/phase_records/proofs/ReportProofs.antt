-- Texts of reports, piece by piece.
use Rattle.std.proofs.Common.{◌≡◌, ℕ, zero, suc, ◌+◌, List, [], ◌∷◌, ◌++◌, drop, length, arith, Some, None, refl, sym, ap, ◌∙◌, add-one}
use Rattle.std.specs.Prelude.{codes, decimal, slice_get, ℤ}
use Rattle.std.specs.List.{flat_map}
use Rattle.std.proofs.lemmas.List.Concat.{flat_map-cons}
use Rattle.phase_records.specs.ReportText.{path_text, array_line}

-- the numbers behind the first of a path
abbrev pub points_text : List ℕ → List ℕ
points_text [] = []
points_text (n ∷ ns) = codes "." ++ decimal n ++ points_text ns

pub path_cons : (n : ℕ) (ns : List ℕ) → path_text (n ∷ ns) ≡ decimal n ++ points_text ns
path_cons n [] = sym (append_nil (decimal n))
  where
    append_nil : (xs : List ℕ) → xs ++ [] ≡ xs
    append_nil [] = refl
    append_nil (x ∷ xs) = ap (λ ys. x ∷ ys) (append_nil xs)
path_cons n (m ∷ ns) = ap (λ xs. decimal n ++ 46 ∷ xs) (path_cons m ns)

pub no_path : (ns : List ℕ) → length ns ≡ 0 → path_text ns ≡ []
no_path [] e = refl
no_path (n ∷ ns) e = absurd (omega arith)

pub no_points : (ns : List ℕ) → length ns ≡ 0 → points_text ns ≡ []
no_points [] e = refl
no_points (n ∷ ns) e = absurd (omega arith)

drop_at : (xs : List (List ℕ × List ℤ)) (i : ℕ) (a : List ℕ × List ℤ) → slice_get xs i ≡ Some a → drop i xs ≡ a ∷ drop (suc i) xs
drop_at [] i a h = absurd cc
drop_at (x ∷ xs) zero a h = let e : x ≡ a = cc in ap (λ y. y ∷ xs) e
drop_at (x ∷ xs) (suc i) a h = drop_at xs i a h

drop_past : (xs : List (List ℕ × List ℤ)) (i : ℕ) → slice_get xs i ≡ None → drop (suc i) xs ≡ drop i xs
drop_past [] zero h = refl
drop_past [] (suc i) h = refl
drop_past (x ∷ xs) zero h = absurd cc
drop_past (x ∷ xs) (suc i) h = drop_past xs i h

-- one array more
pub arrays_next : (xs : List (List ℕ × List ℤ)) (i : ℕ) (a : List ℕ × List ℤ) → Some a ≡ slice_get xs i
    → flat_map array_line (drop i xs) ≡ array_line a ++ flat_map array_line (drop (i + 1) xs)
arrays_next xs i a g =
    ap (λ (ys : List (List ℕ × List ℤ)). flat_map array_line ys) (drop_at xs i a (sym g))
    ∙ flat_map-cons array_line a (drop (suc i) xs)
    ∙ ap (λ (k : ℕ). array_line a ++ flat_map array_line (drop k xs)) (sym (add-one i))

-- and where there is none
pub arrays_end : (xs : List (List ℕ × List ℤ)) (i : ℕ) → None ≡ slice_get xs i
    → flat_map array_line (drop i xs) ≡ flat_map array_line (drop (i + 1) xs)
arrays_end xs i g =
    ap (λ (ys : List (List ℕ × List ℤ)). flat_map array_line ys) (sym (drop_past xs i (sym g)))
    ∙ ap (λ (k : ℕ). flat_map array_line (drop k xs)) (sym (add-one i))
