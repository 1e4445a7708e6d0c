-- Texts that were put after one another.
use Rattle.std.proofs.Common.{◌≡◌, ℕ, List, ◌++◌, Result, Ok, Err, ap, ◌∙◌, append_assoc}
use Rattle.std.specs.Prelude.{OnOk}

-- three texts after another, the last if there was memory
pub three_on : {T E : Type 0} (out one two new a b c : List ℕ) (r : Result T E) → one ≡ out ++ a → two ≡ one ++ b → OnOk r (new ≡ two ++ c)
    → OnOk r (new ≡ out ++ (a ++ b ++ c))
three_on out one two new a b c (Ok x) e f g =
    g ∙ ap (λ (xs : List ℕ). xs ++ c) (f ∙ ap (λ (xs : List ℕ). xs ++ b) e ∙ append_assoc out a b) ∙ append_assoc out (a ++ b) c
three_on out one two new a b c (Err x) e f g = g
