-- Arrays that differ by name and that have names have distinct names.
use Rattle.std.proofs.Common.{◌≡◌, ℕ, ℤ, Bool, true, false, List, [], ◌∷◌, map, refl, sym, ap, ◌∙◌}
use Rattle.std.proofs.lemmas.Bool.{false≢true}
use Rattle.std.proofs.lemmas.Slice.Eq.{bytes_eq-Decides}
use Rattle.std.specs.Prelude.{not, ◌&&◌, ◌||◌}
use Rattle.std.specs.List.{list_all}
use Rattle.std.specs.Str.{bytes_eq}
use Rattle.superstep_memory.specs.Cells.{has_array, are_distinct}
use Rattle.task_code.specs.Names.{is_free, is_among, are_names}
use Rattle.task_code.specs.Rules.{is_array}

both : (a b : Bool) → (a && b) ≡ true → (a ≡ true) × (b ≡ true)
both true b e = (refl, e)
both false b e = absurd (false≢true e)

first_of : (a b c : Bool) → (a && b && c) ≡ true → a ≡ true
first_of true b c e = refl
first_of false b c e = e

all_three : (a b c : Bool) → a ≡ true → b ≡ true → c ≡ true → (a && b && c) ≡ true
all_three true true true e f g = refl
all_three true true false e f g = g
all_three true false c e f g = absurd (false≢true f)
all_three false b c e f g = absurd (false≢true e)

same : (a b : Bool) → (a ≡ true → b ≡ true) → (b ≡ true → a ≡ true) → a ≡ b
same true true f g = refl
same true false f g = absurd (false≢true (f refl))
same false true f g = absurd (false≢true (g refl))
same false false f g = refl

swapped : (v w : List ℕ) → bytes_eq v w ≡ bytes_eq w v
swapped v w =
    same (bytes_eq v w) (bytes_eq w v) (λ e. (bytes_eq-Decides w v).1 (sym ((bytes_eq-Decides v w).0 e)))
    (λ e. (bytes_eq-Decides v w).1 (sym ((bytes_eq-Decides w v).0 e)))

among : (xs : List (List ℕ × List ℤ)) (w : List ℕ) → has_array xs w ≡ is_among (map (λ a. a.0) xs) w
among [] w = refl
among (a ∷ xs) w = ap (λ (b : Bool). b || has_array xs w) (swapped w a.0) ∙ ap (λ (b : Bool). bytes_eq a.0 w || b) (among xs w)

pub named : (xs : List (List ℕ × List ℤ)) → are_distinct xs ≡ true → list_all is_array xs ≡ true → are_names (map (λ a. a.0) xs) ≡ true
named [] d f = refl
named (a ∷ xs) d f =
    let apart = both (not (has_array xs a.0)) (are_distinct xs) d in
    let each = both (is_array a) (list_all is_array xs) f in
    all_three (is_free a.0) (not (is_among (map (λ x. x.0) xs) a.0)) (are_names (map (λ x. x.0) xs))
    (first_of (is_free a.0) _ _ each.0) (ap not (sym (among xs a.0)) ∙ apart.0) (named xs apart.1 each.1)
