-- Counting the members of a list that meet a test.
use Rattle.std.proofs.Common.{◌≡◌, ℕ, ◌+◌, ◌*◌, ◌≤◌, Bool, true, false, cond, eqb, List, [], ◌∷◌, ◌++◌, refl, ap, arith, None}
use Rattle.std.specs.Prelude.{count_by, replicate, ◌&&◌}
use Rattle.std.proofs.lemmas.List.Sums.{sum_by-cons, sum_by-append}
use Rattle.std.proofs.lemmas.List.Folds.{sum_by-replicate}
use Rattle.flat_phaser.specs.Flat.{Member, has_arrived, is_owned, members_of, arrived_of}
use Rattle.flat_phaser.specs.Step.{newcomers}

-- a test as a number
abbrev pub bit : Bool → ℕ
bit b = cond {A = ℕ} b 1 0

pub count_cons : {X : Type 0} (p : X → Bool) (x : X) (xs : List X) → count_by p (x ∷ xs) ≡ bit (p x) + count_by p xs
count_cons p x xs = sum_by-cons (λ y. bit (p y)) x xs

pub count_append : {X : Type 0} (p : X → Bool) (xs ys : List X) → count_by p (xs ++ ys) ≡ count_by p xs + count_by p ys
count_append p xs ys = sum_by-append (λ y. bit (p y)) xs ys

pub count_replicate : {X : Type 0} (p : X → Bool) (n : ℕ) (x : X) → count_by p (replicate n x) ≡ n * bit (p x)
count_replicate p n x = sum_by-replicate (λ y. bit (p y)) n x

-- with one more element in the middle
pub count_here : {X : Type 0} (p : X → Bool) (front : List X) (x : X) (back : List X)
    → count_by p (front ++ x ∷ back) ≡ count_by p (front ++ back) + bit (p x)
count_here p front x back =
    let whole = count_append p front (x ∷ back) in
    let rest = count_append p front back in
    let one = count_cons p x back in
    omega arith

pub bit_true : (b : Bool) → b ≡ true → bit b ≡ 1
bit_true b e = ap bit e

pub bit_false : (b : Bool) → b ≡ false → bit b ≡ 0
bit_false b e = ap bit e

pub bit_and_true : (a b : Bool) → b ≡ true → bit (a && b) ≡ bit a
bit_and_true true b e = ap bit e
bit_and_true false b e = refl

pub bit_and_false : (a b : Bool) → b ≡ false → bit (a && b) ≡ 0
bit_and_false true b e = ap bit e
bit_and_false false b e = refl

pub bit_and_le : (a b : Bool) → bit (a && b) ≤ bit a
bit_and_le true true = omega arith
bit_and_le true false = omega arith
bit_and_le false b = omega arith

pub times_bit : (n : ℕ) (b : Bool) → n * bit b ≡ cond {A = ℕ} b n 0
times_bit n true = omega arith
times_bit n false = omega arith

-- those who have arrived are members
pub arrived_le : (phase owner : ℕ) (members : List Member) → arrived_of phase owner members ≤ members_of owner members
arrived_le phase owner [] = omega arith
arrived_le phase owner (m ∷ ms) =
    let arrived = count_cons (λ x. is_owned owner x && has_arrived phase x) m ms in
    let all = count_cons (is_owned owner) m ms in
    let rest = arrived_le phase owner ms in
    let here = bit_and_le (is_owned owner m) (has_arrived phase m) in
    omega arith

-- newcomers are members of their owner, and none has arrived
pub newcomers_members : (owner count u : ℕ) (members : List Member)
    → members_of u (members ++ newcomers owner count) ≡ members_of u members + cond {A = ℕ} (eqb owner u) count 0
newcomers_members owner count u members =
    let whole = count_append (is_owned u) members (newcomers owner count) in
    let new = count_replicate (is_owned u) count (record { owner = owner; mark = None }) in
    let each = times_bit count (eqb owner u) in
    omega arith

pub newcomers_arrived : (phase owner count u : ℕ) (members : List Member)
    → arrived_of phase u (members ++ newcomers owner count) ≡ arrived_of phase u members
newcomers_arrived phase owner count u members =
    let whole = count_append (λ x. is_owned u x && has_arrived phase x) members (newcomers owner count) in
    let new = count_replicate (λ x. is_owned u x && has_arrived phase x) count (record { owner = owner; mark = None }) in
    let none = bit_and_false (eqb owner u) false refl in
    let each : count * bit (eqb owner u && false) ≡ count * 0 = ap (λ (k : ℕ). count * k) none in
    omega arith
