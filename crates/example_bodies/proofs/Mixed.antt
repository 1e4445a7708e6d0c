-- One cell more of the rod.
use Rattle.std.proofs.Common.{◌≡◌, ℕ, zero, suc, ◌+◌, ◌-◌, ◌≤◌, List, [], ◌∷◌, ◌++◌, refl, sym, ap, ◌∙◌, arith}
use Rattle.std.specs.Prelude.{ℤ}
use Rattle.example_bodies.specs.Rod.{mixed, mixed_from}

mixed_last : (cells : List ℤ) (place count : ℕ)
    → mixed_from cells place (suc count) ≡ mixed_from cells place count ++ mixed cells (place + count) ∷ []
mixed_last cells place zero = let e : place ≡ place + zero = omega arith in ap (λ (n : ℕ). mixed cells n ∷ []) e
mixed_last cells place (suc count) =
    let e : suc place + count ≡ place + suc count = omega arith in
    ap (λ (vs : List ℤ). mixed cells place ∷ vs)
    (mixed_last cells (suc place) count ∙ ap (λ (n : ℕ). mixed_from cells (suc place) count ++ mixed cells n ∷ []) e)

pub mixed_more : (cells : List ℤ) (first place : ℕ) (values more : List ℤ) (v : ℤ) → first ≤ place
    → values ≡ mixed_from cells first (place - first) → v ≡ mixed cells place
    → more ≡ values ++ v ∷ [] → more ≡ mixed_from cells first (place + 1 - first)
mixed_more cells first place values more v le h e eq =
    let at : place ≡ first + (place - first) = omega (arith, le) in
    let up : suc (place - first) ≡ place + 1 - first = omega (arith, le) in
    eq ∙ (λ i. h i ++ (e ∙ ap (mixed cells) at) i ∷ []) ∙ sym (mixed_last cells first (place - first)) ∙ ap (mixed_from cells first) up
