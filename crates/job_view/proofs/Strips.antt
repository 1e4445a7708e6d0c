-- Strips of arrays, one after another.
use Rattle.std.proofs.Common.{◌≡◌, ℕ, zero, suc, ◌+◌, ◌*◌, List, [], ◌∷◌, ◌++◌, drop, Some, None, refl, sym, ap, ◌∙◌, append_assoc, add-one}
use Rattle.std.specs.Prelude.{slice_get, ℤ}
use Rattle.job_view.specs.Cells.{strip, strips_from}

drop_at : (xs : List (List ℕ × List ℤ)) (i : ℕ) (a : List ℕ × List ℤ) → slice_get xs i ≡ Some a → drop i xs ≡ a ∷ drop (suc i) xs
drop_at [] i a h = absurd cc
drop_at (x ∷ xs) zero a h = let e : x ≡ a = cc in ap (λ y. y ∷ xs) e
drop_at (x ∷ xs) (suc i) a h = drop_at xs i a h

drop_past : (xs : List (List ℕ × List ℤ)) (i : ℕ) → slice_get xs i ≡ None → drop i xs ≡ []
drop_past [] zero h = refl
drop_past [] (suc i) h = refl
drop_past (x ∷ xs) zero h = absurd cc
drop_past (x ∷ xs) (suc i) h = drop_past xs i h

-- one array more
pub next_strip : (xs : List (List ℕ × List ℤ)) (i : ℕ) (a : List ℕ × List ℤ) (out new all : List ℕ) → Some a ≡ slice_get xs i
    → new ≡ out ++ strip (310 + 50 * i) a → out ++ strips_from i (drop i xs) ≡ all → new ++ strips_from (i + 1) (drop (i + 1) xs) ≡ all
next_strip xs i a out new all g e h =
    ap (λ (ys : List ℕ). ys ++ strips_from (i + 1) (drop (i + 1) xs)) e
    ∙ append_assoc out (strip (310 + 50 * i) a) (strips_from (i + 1) (drop (i + 1) xs))
    ∙ ap (λ (k : ℕ). out ++ (strip (310 + 50 * i) a ++ strips_from (i + 1) (drop k xs))) (add-one i)
    ∙ ap (λ (ys : List (List ℕ × List ℤ)). out ++ strips_from i ys) (sym (drop_at xs i a (sym g)))
    ∙ h

-- and where there is none
pub no_strip : (xs : List (List ℕ × List ℤ)) (i : ℕ) (out new all : List ℕ) → None ≡ slice_get xs i
    → new ≡ out → out ++ strips_from i (drop i xs) ≡ all → new ++ strips_from (i + 1) (drop (i + 1) xs) ≡ all
no_strip xs i out new all g e h =
    ap (λ (ys : List ℕ). ys ++ strips_from (i + 1) (drop (i + 1) xs)) e
    ∙ ap (λ (k : ℕ). out ++ strips_from (i + 1) (drop k xs)) (add-one i)
    ∙ ap (λ (ys : List (List ℕ × List ℤ)). out ++ strips_from (i + 1) ys) (past-too xs i (sym g))
    ∙ ap (λ (ys : List (List ℕ × List ℤ)). out ++ strips_from i ys) (sym (drop_past xs i (sym g)))
    ∙ h
  where
    past-too : (ys : List (List ℕ × List ℤ)) (n : ℕ) → slice_get ys n ≡ None → drop (suc n) ys ≡ []
    past-too [] n e = refl
    past-too (y ∷ ys) zero e = absurd cc
    past-too (y ∷ ys) (suc n) e = past-too ys n e
