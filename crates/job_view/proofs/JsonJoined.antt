-- Tokens that were written one after another.
use Rattle.std.proofs.Common.{◌≡◌, List, ◌++◌, ap, ◌∙◌, append_assoc}
use Rattle.json.specs.Token.{Token}

-- tokens after others
pub onto : (out mid new a b : List Token) → mid ≡ out ++ a → new ≡ mid ++ b → new ≡ out ++ (a ++ b)
onto out mid new a b e f = f ∙ ap (λ (ts : List Token). ts ++ b) e ∙ append_assoc out a b
