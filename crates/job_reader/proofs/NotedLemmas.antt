-- Mentions in turn.
use Rattle.std.proofs.Common.{◌≡◌, ℕ, ◌+◌, Bool, true, false, List, [], ◌∷◌, ◌++◌, Option, Some, None, refl, sym, ap}
use Rattle.std.specs.Prelude.{if◌then◌else◌, ◌||◌}
use Rattle.std.specs.Str.{bytes_eq}
use Rattle.task_code.specs.Names.{is_among}
use Rattle.std.specs.Borrow.{Bor}
use Rattle.job_reader.specs.Views.{lent}
use Rattle.job_reader.specs.Words.{Word, place_from, noted}

some-first : (b a : Bool) (k i : ℕ) (o : Option ℕ) → (o ≡ Some i → a ≡ true) → (if b then Some k else o) ≡ Some i → (b || a) ≡ true
some-first true a k i o h e = refl
some-first false a k i o h e = h e

none-first : (b a : Bool) (k : ℕ) (o : Option ℕ) → (o ≡ None → a ≡ false) → (if b then Some k else o) ≡ None → (b || a) ≡ false
none-first true a k o h e = absurd cc
none-first false a k o h e = h e

pub among-some : (k : ℕ) (names : List Word) (w : Word) (i : ℕ) → place_from k names w ≡ Some i → is_among names w ≡ true
among-some k [] w i e = absurd cc
among-some k (n ∷ ns) w i e = some-first (bytes_eq n w) (is_among ns w) k i (place_from (k + 1) ns w) (among-some (k + 1) ns w i) e

pub among-none : (k : ℕ) (names : List Word) (w : Word) → place_from k names w ≡ None → is_among names w ≡ false
among-none k [] w e = refl
among-none k (n ∷ ns) w e = none-first (bytes_eq n w) (is_among ns w) k (place_from (k + 1) ns w) (among-none (k + 1) ns w) e

pub note-known : (names : List Word) (w : Word) (i : ℕ) → Some i ≡ place_from 0 names w → noted names (w ∷ []) ≡ names
note-known names w i e = ap (λ (b : Bool). if b then names else names ++ w ∷ []) (among-some 0 names w i (sym e))

pub note-new : (names : List Word) (w : Word) → None ≡ place_from 0 names w → noted names (w ∷ []) ≡ names ++ w ∷ []
note-new names w e = ap (λ (b : Bool). if b then names else names ++ w ∷ []) (among-none 0 names w (sym e))

pub noted-append : (names xs ys : List Word) → noted names (xs ++ ys) ≡ noted (noted names xs) ys
noted-append names [] ys = refl
noted-append names (x ∷ xs) ys = noted-append (if is_among names x then names else names ++ x ∷ []) xs ys

pub is-among-some : (names : List Word) (w : Word) (i : ℕ) → Some i ≡ place_from 0 names w → true ≡ is_among names w
is-among-some names w i e = sym (among-some 0 names w i (sym e))

pub is-among-none : (names : List Word) (w : Word) → None ≡ place_from 0 names w → false ≡ is_among names w
is-among-none names w e = sym (among-none 0 names w (sym e))

pub ruleset among_steps = (is-among-some, is-among-none)

pub ruleset note_steps = (note-known, note-new)

pub ruleset noted_steps = (noted-append)

pub lent-append : (xs ys : List (Bor (List ℕ))) → lent (xs ++ ys) ≡ lent xs ++ lent ys
lent-append [] ys = refl
lent-append (x ∷ xs) ys = ap (λ (t : List Word). x.now ∷ t) (lent-append xs ys)
