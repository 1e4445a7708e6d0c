-- Texts that were put behind one another.
use Rattle.std.proofs.Common.{◌≡◌, ℕ, List, [], ◌++◌, Result, Ok, Err, ap, ◌∙◌, append_assoc}
use Rattle.std.specs.Prelude.{OnOk}

-- a text behind others
pub onto : (out mid new a b : List ℕ) → mid ≡ out ++ a → new ≡ mid ++ b → new ≡ out ++ (a ++ b)
onto out mid new a b e f = f ∙ ap (λ (xs : List ℕ). xs ++ b) e ∙ append_assoc out a b

-- a text and a number behind others
pub field : (out mid new a b c : List ℕ) → mid ≡ out ++ a → new ≡ mid ++ b ++ c → new ≡ out ++ (a ++ b ++ c)
field out mid new a b c e f =
    f ∙ ap (λ (xs : List ℕ). xs ++ b ++ c) e ∙ ap (λ (xs : List ℕ). xs ++ c) (append_assoc out a b) ∙ append_assoc out (a ++ b) c

-- a text and a number as the first
pub first : (out new b c : List ℕ) → new ≡ out ++ b ++ c → new ≡ out ++ (b ++ c)
first out new b c f = f ∙ append_assoc out b c

-- and as the last, where there was memory
pub last : {T E : Type 0} (out mid new a b : List ℕ) (r : Result T E) → mid ≡ out ++ a → OnOk r (new ≡ mid ++ b)
    → OnOk r (new ≡ out ++ (a ++ b))
last out mid new a b (Ok x) e f = onto out mid new a b e f
last out mid new a b (Err x) e f = f

pub last_field : {T E : Type 0} (out mid new a b c : List ℕ) (r : Result T E) → mid ≡ out ++ a → OnOk r (new ≡ mid ++ b ++ c)
    → OnOk r (new ≡ out ++ (a ++ b ++ c))
last_field out mid new a b c (Ok x) e f = field out mid new a b c e f
last_field out mid new a b c (Err x) e f = f

-- one more of a list, of which all will be there in the end
pub next : (out new one more all : List ℕ) → new ≡ out ++ one → out ++ (one ++ more) ≡ all → new ++ more ≡ all
next out new one more all e h = ap (λ (xs : List ℕ). xs ++ more) e ∙ append_assoc out one more ∙ h

-- where there was memory
pub on_ok : {T E : Type 0} {P Q : Type 0} (r : Result T E) → (P → Q) → OnOk r P → OnOk r Q
on_ok (Ok x) f p = f p
on_ok (Err x) f p = p

-- a text behind nothing
pub whole : (out new a : List ℕ) → out ≡ [] → new ≡ out ++ a → new ≡ a
whole out new a e f = f ∙ ap (λ (xs : List ℕ). xs ++ a) e
