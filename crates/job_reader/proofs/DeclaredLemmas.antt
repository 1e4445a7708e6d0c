-- At most 64 bodies are looked for.
use Rattle.std.proofs.Common.{◌≡◌, ℕ, ◌≤◌, List, [], ◌∷◌, ◌++◌, length, take, take_all, refl, sym, ap, ◌∙◌, arith, append-nil}
use Rattle.std.proofs.lemmas.List.{take-append-le}
use Rattle.std.specs.Borrow.{Bor}
use Rattle.job_reader.specs.Words.{Word}
use Rattle.job_reader.specs.Views.{lent}

pub length-lent : (ws : List (Bor (List ℕ))) → length (lent ws) ≡ length ws
length-lent [] = refl
length-lent (w ∷ ws) = let rest = length-lent ws in omega arith

pub take-full : (xs : List Word) (ys zs : List Word) (n : ℕ) → n ≤ length xs → take n (xs ++ ys) ≡ take n (xs ++ zs)
take-full xs ys zs n h = take-append-le n xs ys h ∙ sym (take-append-le n xs zs h)

pub take-whole : (xs : List Word) (n : ℕ) → length xs ≤ n → take n (xs ++ []) ≡ xs
take-whole xs n h = ap (take n) (append-nil xs) ∙ take_all n xs h
