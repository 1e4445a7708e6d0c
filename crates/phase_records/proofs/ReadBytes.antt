-- Bytes that came in one after another.
use Rattle.std.proofs.Common.{◌≡◌, ℕ, ◌+◌, ◌-◌, ◌<◌, ◌≤◌, List, [], ◌∷◌, ◌++◌, length, Option, None, Some, sym, ap, ◌∙◌, append_assoc, append-nil, length-append, arith}
use Rattle.std.specs.Prelude.{IfSome}
use Rattle.std.specs.Io.KnownBytes.{Consumes, IsAtEnd}

-- two parts that came one after the other
pub came_more : (old mid new : Option (List ℕ)) (xs ys : List ℕ) → Consumes old mid xs → Consumes mid new ys → Consumes old new (xs ++ ys)
came_more None mid new xs ys a b = tt
came_more (Some o) None new xs ys a b = absurd a
came_more (Some o) (Some m) None xs ys a b = absurd b
came_more (Some o) (Some m) (Some n) xs ys a b = a ∙ ap (λ (z : List ℕ). xs ++ z) b ∙ sym (append_assoc xs ys n)

-- what came is all of it, if nothing came last
pub came_all : (old mid new : Option (List ℕ)) (xs ys : List ℕ) → Consumes old mid xs → Consumes mid new ys → length ys ≡ 0 → IsAtEnd new
    → IfSome old (λ bytes. xs ≡ bytes)
came_all None mid new xs ys a b l e = tt
came_all (Some o) None new xs ys a b l e = absurd a
came_all (Some o) (Some m) None xs ys a b l e = absurd b
came_all (Some o) (Some m) (Some n) xs (y ∷ ys) a b l e = absurd (omega arith)
came_all (Some o) (Some m) (Some n) xs [] a b l e = sym (a ∙ ap (λ (z : List ℕ). xs ++ z) (b ∙ e) ∙ append-nil xs)

-- there are more than this many, as more than that without what came are still to come
pub more_left : (old new : Option (List ℕ)) (xs : List ℕ) (capacity most : ℕ) → Consumes old new xs → most ≤ length xs + capacity
    → IfSome new (λ bytes. capacity < length bytes) → IfSome old (λ bytes. most < length bytes)
more_left None new xs capacity most c l h = tt
more_left (Some o) None xs capacity most c l h = absurd c
more_left (Some o) (Some n) xs capacity most c l h = let e : length o ≡ length xs + length n = ap length c ∙ length-append xs n in
    omega arith

-- and no more than this many, as no more than that are still to come
pub no_more_left : (old new : Option (List ℕ)) (xs : List ℕ) (capacity most : ℕ) → Consumes old new xs → length xs + capacity ≤ most
    → IfSome new (λ bytes. length bytes ≤ capacity) → IfSome old (λ bytes. length bytes ≤ most)
no_more_left None new xs capacity most c l h = tt
no_more_left (Some o) None xs capacity most c l h = absurd c
no_more_left (Some o) (Some n) xs capacity most c l h = let e : length o ≡ length xs + length n = ap length c ∙ length-append xs n in
    omega arith

-- there are more than this many, as more came
pub more_came : (old new : Option (List ℕ)) (xs : List ℕ) (most : ℕ) → Consumes old new xs → most < length xs
    → IfSome old (λ bytes. most < length bytes)
more_came None new xs most c l = tt
more_came (Some o) None xs most c l = absurd c
more_came (Some o) (Some n) xs most c l = let e : length o ≡ length xs + length n = ap length c ∙ length-append xs n in omega arith

-- the same of two parts, the second of n bytes that fit after the first
pub more_behind : (old mid new : Option (List ℕ)) (xs ys : List ℕ) (n len at most : ℕ) → Consumes old mid xs → Consumes mid new ys
    → length ys ≡ n → length xs ≡ len → at ≡ len → n ≤ most - len → len ≤ most
    → IfSome new (λ bytes. most - at - n < length bytes) → IfSome old (λ bytes. most < length bytes)
more_behind old mid new xs ys n len at most a b l k e f m h =
    more_left old new (xs ++ ys) (most - at - n) most (came_more old mid new xs ys a b) (let s = length-append xs ys in omega arith) h

pub no_more_behind : (old mid new : Option (List ℕ)) (xs ys : List ℕ) (n len at most : ℕ) → Consumes old mid xs → Consumes mid new ys
    → length ys ≡ n → length xs ≡ len → at ≡ len → n ≤ most - len → len ≤ most
    → IfSome new (λ bytes. length bytes ≤ most - at - n) → IfSome old (λ bytes. length bytes ≤ most)
no_more_behind old mid new xs ys n len at most a b l k e f m h =
    no_more_left old new (xs ++ ys) (most - at - n) most (came_more old mid new xs ys a b) (let s = length-append xs ys in omega arith) h

-- more than this many came, as the second part doesn't fit after the first
pub too_many_came : (old mid new : Option (List ℕ)) (xs ys : List ℕ) (n len most : ℕ) → Consumes old mid xs → Consumes mid new ys
    → length ys ≡ n → length xs ≡ len → most - len < n → IfSome old (λ bytes. most < length bytes)
too_many_came old mid new xs ys n len most a b l k f =
    more_came old new (xs ++ ys) most (came_more old mid new xs ys a b) (let s = length-append xs ys in omega arith)
