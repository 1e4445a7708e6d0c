-- Members of arrays, one after another.
use Rattle.std.proofs.Common.{◌≡◌, ℕ, ℤ, zero, suc, ◌+◌, List, [], ◌∷◌, ◌++◌, drop, map, Some, None, refl, sym, ap, ◌∙◌, append_assoc, add-one}
use Rattle.std.specs.Prelude.{slice_get}
use Rattle.json.specs.Token.{Token, key}
use Rattle.json.specs.Tree.{json_tokens, members_tokens}
use Rattle.job_view.specs.ReportJson.{array_member, integer, list, members}

drop_at : (xs : List (List ℕ × List ℤ)) (i : ℕ) (a : List ℕ × List ℤ) → slice_get xs i ≡ Some a → drop i xs ≡ a ∷ drop (suc i) xs
drop_at [] i a h = absurd cc
drop_at (x ∷ xs) zero a h = let e : x ≡ a = cc in ap (λ y. y ∷ xs) e
drop_at (x ∷ xs) (suc i) a h = drop_at xs i a h

drop_past : (xs : List (List ℕ × List ℤ)) (i : ℕ) → slice_get xs i ≡ None → drop (suc i) xs ≡ drop i xs
drop_past [] zero h = refl
drop_past [] (suc i) h = refl
drop_past (x ∷ xs) zero h = absurd cc
drop_past (x ∷ xs) (suc i) h = drop_past xs i h

-- the members of arrays, to the end of the object
abbrev pub rest_tokens : List (List ℕ × List ℤ) → List Token
rest_tokens arrays = members_tokens (members (map array_member arrays))

-- one array more
pub next_member : (xs : List (List ℕ × List ℤ)) (i : ℕ) (a : List ℕ × List ℤ) (out new all : List Token) → Some a ≡ slice_get xs i
    → new ≡ out ++ key a.0 ∷ json_tokens (list integer a.1) → out ++ rest_tokens (drop i xs) ≡ all
    → new ++ rest_tokens (drop (i + 1) xs) ≡ all
next_member xs i a out new all g e h =
    ap (λ (ts : List Token). ts ++ rest_tokens (drop (i + 1) xs)) e
    ∙ append_assoc out (key a.0 ∷ json_tokens (list integer a.1)) (rest_tokens (drop (i + 1) xs))
    ∙ ap (λ (k : ℕ). out ++ key a.0 ∷ (json_tokens (list integer a.1) ++ rest_tokens (drop k xs))) (add-one i)
    ∙ ap (λ (ys : List (List ℕ × List ℤ)). out ++ rest_tokens ys) (sym (drop_at xs i a (sym g)))
    ∙ h

-- and if there is none
pub no_member : (xs : List (List ℕ × List ℤ)) (i : ℕ) (out new all : List Token) → None ≡ slice_get xs i
    → new ≡ out → out ++ rest_tokens (drop i xs) ≡ all → new ++ rest_tokens (drop (i + 1) xs) ≡ all
no_member xs i out new all g e h =
    ap (λ (ts : List Token). ts ++ rest_tokens (drop (i + 1) xs)) e
    ∙ ap (λ (k : ℕ). out ++ rest_tokens (drop k xs)) (add-one i)
    ∙ ap (λ (ys : List (List ℕ × List ℤ)). out ++ rest_tokens ys) (drop_past xs i (sym g))
    ∙ h
