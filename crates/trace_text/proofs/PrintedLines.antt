-- Lines that are printed part by part, up to a text that ends them.
use Rattle.std.proofs.Common.{◌≡◌, ℕ, List, ◌++◌, Result, Ok, Err, ap, ◌∙◌, append_assoc}
use Rattle.std.specs.Prelude.{OnOk, is_ok, if◌then◌else◌}

-- a field and a text
pub field_and_text : {E : Type 0} (result : Result (Unit {0}) E) (old one new a b g h : List ℕ) → one ≡ old ++ a ++ b → g ≡ h
    → new ≡ (if is_ok result then one ++ g else one) → OnOk result (new ≡ old ++ (a ++ b ++ h))
field_and_text (Err x) old one new a b g h i e k = tt
field_and_text (Ok x) old one new a b g h i e k = k ∙ (λ t. i t ++ e t) ∙ simp append_assoc

-- three fields and a text
pub fields_and_text : {E : Type 0} (result : Result (Unit {0}) E) (old one two three new a b c d e f g h : List ℕ) → one ≡ old ++ a ++ b
    → two ≡ one ++ c ++ d → three ≡ two ++ e ++ f → g ≡ h
    → new ≡ (if is_ok result then three ++ g else three) → OnOk result (new ≡ old ++ (a ++ b ++ c ++ d ++ e ++ f ++ h))
fields_and_text (Err x) old one two three new a b c d e f g h i j k l m = tt
fields_and_text (Ok x) old one two three new a b c d e f g h i j k l m =
    m ∙ ap (λ (z : List ℕ). z ++ g) (k ∙ ap (λ (z : List ℕ). z ++ e ++ f) (j ∙ ap (λ (z : List ℕ). z ++ c ++ d) i))
    ∙ ap (λ (z : List ℕ). old ++ a ++ b ++ c ++ d ++ e ++ f ++ z) l ∙ simp append_assoc
