-- Two lists that are seen alike are so at each place.
use Rattle.std.proofs.Common.{◌≡◌, ℕ, zero, suc, ◌<◌, List, [], ◌∷◌, length, map, get_or, ap, sym, ◌∙◌, arith}

pub mapped-at : {X Y : Type 0} (f : X → Y) (xs ys : List X) (i : ℕ) (x y : X) → i < length xs → i < length ys
    → x ≡ get_or xs i x → y ≡ get_or ys i y → map f xs ≡ map f ys → f x ≡ f y
mapped-at f [] ys i x y h k p q e = absurd (omega arith)
mapped-at f (a ∷ xs) [] i x y h k p q e = absurd (omega arith)
mapped-at f (a ∷ xs) (b ∷ ys) zero x y h k p q e = let first : f a ≡ f b = cc in ap f p ∙ first ∙ sym (ap f q)
mapped-at f (a ∷ xs) (b ∷ ys) (suc i) x y h k p q e =
    let rest : map f xs ≡ map f ys = cc in mapped-at f xs ys i x y (omega arith) (omega arith) p q rest
