-- Arrays one after another.
use Rattle.std.proofs.Common.{◌≡◌, ℕ, zero, suc, ◌+◌, List, [], ◌∷◌, ◌++◌, drop, map, Bool, true, false, Option, Some, None, Result, Ok, Err, refl, sym, ap, ◌∙◌, append_assoc, add-one}
use Rattle.std.specs.Prelude.{slice_get, ℤ, if◌then◌else◌, OnOk}
use Rattle.std.specs.Str.{bytes_eq}
use Rattle.job_view.specs.Views.{View}
use Rattle.job_view.specs.Look.{cells_if, named}

abbrev pub Arrays : Type 0
Arrays = List (List ℕ × List ℤ)

drop_at : (xs : Arrays) (i : ℕ) (a : List ℕ × List ℤ) → slice_get xs i ≡ Some a → drop i xs ≡ a ∷ drop (suc i) xs
drop_at [] i a h = absurd cc
drop_at (x ∷ xs) zero a h = let e : x ≡ a = cc in ap (λ y. y ∷ xs) e
drop_at (x ∷ xs) (suc i) a h = drop_at xs i a h

drop_past : (xs : Arrays) (i : ℕ) → slice_get xs i ≡ None → drop i xs ≡ []
drop_past [] zero h = refl
drop_past [] (suc i) h = refl
drop_past (x ∷ xs) zero h = absurd cc
drop_past (x ∷ xs) (suc i) h = drop_past xs i h

past_too : (ys : Arrays) (n : ℕ) → slice_get ys n ≡ None → drop (suc n) ys ≡ []
past_too [] n e = refl
past_too (y ∷ ys) zero e = absurd cc
past_too (y ∷ ys) (suc n) e = past_too ys n e

-- one array more
pub next_view : (f : List ℕ × List ℤ → View) (xs : Arrays) (i : ℕ) (a : List ℕ × List ℤ) (out new all : List View) → Some a ≡ slice_get xs i
    → new ≡ out ++ f a ∷ [] → out ++ map f (drop i xs) ≡ all → new ++ map f (drop (i + 1) xs) ≡ all
next_view f xs i a out new all g e h =
    ap (λ (ys : List View). ys ++ map f (drop (i + 1) xs)) e
    ∙ append_assoc out (f a ∷ []) (map f (drop (i + 1) xs))
    ∙ ap (λ (k : ℕ). out ++ f a ∷ map f (drop k xs)) (add-one i)
    ∙ ap (λ (ys : Arrays). out ++ map f ys) (sym (drop_at xs i a (sym g)))
    ∙ h

-- and where there is none
pub no_view : (f : List ℕ × List ℤ → View) (xs : Arrays) (i : ℕ) (out new all : List View) → None ≡ slice_get xs i
    → new ≡ out → out ++ map f (drop i xs) ≡ all → new ++ map f (drop (i + 1) xs) ≡ all
no_view f xs i out new all g e h =
    ap (λ (ys : List View). ys ++ map f (drop (i + 1) xs)) e
    ∙ ap (λ (k : ℕ). out ++ map f (drop k xs)) (add-one i)
    ∙ ap (λ (ys : Arrays). out ++ map f ys) (past_too xs i (sym g))
    ∙ ap (λ (ys : Arrays). out ++ map f ys) (sym (drop_past xs i (sym g)))
    ∙ h

passed : (b : Bool) (v : List ℤ) (rest : Option (List ℤ)) → None ≡ (if b then Some v else None) → rest ≡ (if b then Some v else rest)
passed true v rest e = absurd cc
passed false v rest e = refl

met : (b : Bool) (v cells : List ℤ) (rest : Option (List ℤ)) → Some cells ≡ (if b then Some v else None)
    → Some cells ≡ (if b then Some v else rest)
met true v cells rest e = e
met false v cells rest e = absurd cc

-- a name isn't that of the array at a place
pub named_on : (name : List ℕ) (xs : Arrays) (i : ℕ) (all : Option (List ℤ)) → None ≡ cells_if name (slice_get xs i)
    → named name (drop i xs) ≡ all → named name (drop (i + 1) xs) ≡ all
named_on name xs i all g h = ap (λ (k : ℕ). named name (drop k xs)) (add-one i) ∙ on xs i g ∙ h
  where
    on : (ys : Arrays) (n : ℕ) → None ≡ cells_if name (slice_get ys n) → named name (drop (suc n) ys) ≡ named name (drop n ys)
    on [] zero e = refl
    on [] (suc n) e = refl
    on (y ∷ ys) zero e = passed (bytes_eq y.0 name) y.1 (named name ys) e
    on (y ∷ ys) (suc n) e = on ys n e

-- or it is
pub named_here : (name : List ℕ) (xs : Arrays) (i : ℕ) (cells : List ℤ) (all : Option (List ℤ))
    → Some cells ≡ cells_if name (slice_get xs i)
    → named name (drop i xs) ≡ all → Some cells ≡ all
named_here name xs i cells all g h = at xs i g ∙ h
  where
    at : (ys : Arrays) (n : ℕ) → Some cells ≡ cells_if name (slice_get ys n) → Some cells ≡ named name (drop n ys)
    at [] zero e = absurd cc
    at [] (suc n) e = absurd cc
    at (y ∷ ys) zero e = met (bytes_eq y.0 name) y.1 cells (named name ys) e
    at (y ∷ ys) (suc n) e = at ys n e

-- three lists after one another, the last if there was memory
pub three_on : {T E : Type 0} (old one two new a b c : List View) (r : Result T E) → one ≡ old ++ a → two ≡ one ++ b
    → OnOk r (new ≡ two ++ c)
    → OnOk r (new ≡ old ++ (a ++ (b ++ c)))
three_on old one two new a b c (Ok x) f g h =
    h ∙ ap (λ (xs : List View). xs ++ c) (g ∙ ap (λ (xs : List View). xs ++ b) f)
    ∙ append_assoc (old ++ a) b c ∙ append_assoc old a (b ++ c)
three_on old one two new a b c (Err x) f g h = h
