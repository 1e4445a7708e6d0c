-- Words and numbers that were read, and what they were read as.
use Rattle.std.proofs.Common.{◌≡◌, ℕ, ◌≤◌, Bool, true, false, cond, nat_le, Option, None, Some, Result, Ok, Err, refl, ap, subst, ◌∙◌, arith, ℤ, pos, negsuc, FitsSigned, w64}
use Rattle.std.specs.Prelude.{decimal, option_map, option_and_then}
use Rattle.std.specs.Str.{bytes_eq}
use Rattle.std.proofs.lemmas.Int.{ints}
use Rattle.std.proofs.lemmas.Grind.{common_steps}
use Rattle.std.proofs.lemmas.Slice.Eq.{bytes_eq-Decides}
use Rattle.text_lines.specs.declared.refusal.Code.{Code}
use Rattle.text_lines.specs.Number.{number_of}
use Rattle.text_lines.proofs.NumbersLemmas.{numbers_law}
use Rattle.trace_text.specs.Words.{Word, up_to, or_else}
use Rattle.trace_text.specs.TreeWords.{made}

-- what is made of something is made of something that is there
pub from-made : {A B : Type 0} (f : A → B) (r : Result A Code) (b : B) → made f r ≡ Ok b → (a : A) × (r ≡ Ok a) × (f a ≡ b)
from-made f (Ok a) b e = (a, refl, cc)
from-made {A} {B} f (Err code) b e = absurd (let wrong : ◌≡◌ {A = Result B Code} (Err code) (Ok b) = e in cc)

pub from-map : {A B : Type 0} (f : A → B) (o : Option A) (b : B) → option_map f o ≡ Some b → (a : A) × (o ≡ Some a) × (f a ≡ b)
from-map f (Some a) b e = (a, refl, cc)
from-map {A} {B} f None b e = absurd (let wrong : ◌≡◌ {A = Option B} None (Some b) = e in cc)

pub from-next : {A B : Type 0} (f : A → Option B) (o : Option A) (b : B) → option_and_then f o ≡ Some b
    → (a : A) × (o ≡ Some a) × (f a ≡ Some b)
from-next f (Some a) b e = (a, refl, e)
from-next {A} {B} f None b e = absurd (let wrong : ◌≡◌ {A = Option B} None (Some b) = e in cc)

pub from-or : {A : Type 0} (code : Code) (o : Option A) (a : A) → or_else code o ≡ Ok a → o ≡ Some a
from-or {A} code None a e = absurd (let wrong : ◌≡◌ {A = Result A Code} (Err code) (Ok a) = e in cc)
from-or code (Some x) a e = cc

-- of a chain of keywords: what holds if it is this one, and what if it is one of the rest
pub by-word : {F : Type 0} (P : F → Type 0) (w k : Word) (f g : F) (rest : Option F) → (w ≡ k → P f) → (rest ≡ Some g → P g)
    → cond {A = Option F} (bytes_eq w k) (Some f) rest ≡ Some g → P g
by-word {F} P w k f g rest here behind h = chosen (bytes_eq w k) refl h
  where
    chosen : (b : Bool) → bytes_eq w k ≡ b → cond {A = Option F} b (Some f) rest ≡ Some g → P g
    chosen true t h = let same : f ≡ g = cc in subst P same (here ((bytes_eq-Decides w k).0 t))
    chosen false t h = behind h

pub by-none : {F : Type 0} {P : Type 0} (g : F) → ◌≡◌ {A = Option F} None (Some g) → P
by-none g e = absurd cc

-- numbers

fits-64 : (n : ℕ) → n ≤ 9223372036854775807 → FitsSigned w64 (pos n)
fits-64 n h = grind (arith, common_steps, ints)

pub small-read : (most n : ℕ) → most ≤ 9223372036854775807 → n ≤ most → number_of (decimal n) ≡ Some (pos n)
small-read most n m h = numbers_law.0 (pos n) (fits-64 n (omega arith))

at-most : (n most : ℕ) → n ≤ most → nat_le n most ≡ true
at-most n most h = grind (arith, common_steps)

pub up-to-read : (most n : ℕ) → most ≤ 9223372036854775807 → n ≤ most → up_to most (number_of (decimal n)) ≡ Some n
up-to-read most n m h = ap (up_to most) (small-read most n m h) ∙ ap (λ (b : Bool). cond {A = Option ℕ} b (Some n) None) (at-most n most h)

pub up-to-said : (most n : ℕ) (w : Word) → up_to most (number_of w) ≡ Some n → (w ≡ decimal n) × (n ≤ most)
up-to-said most n w e = cases (number_of w) refl e
  where
    chosen : (k : ℕ) (b : Bool) → nat_le k most ≡ b → cond {A = Option ℕ} b (Some k) None ≡ Some n → (k ≡ n) × (n ≤ most)
    chosen k true t h = let same : k ≡ n = cc in let less : k ≤ most = grind (arith, common_steps) in (same, omega arith)
    chosen k false t h = absurd (let wrong : ◌≡◌ {A = Option ℕ} None (Some n) = h in cc)

    cases : (o : Option ℤ) → number_of w ≡ o → up_to most o ≡ Some n → (w ≡ decimal n) × (n ≤ most)
    cases None t h = absurd (let wrong : ◌≡◌ {A = Option ℕ} None (Some n) = h in cc)
    cases (Some (negsuc k)) t h = absurd (let wrong : ◌≡◌ {A = Option ℕ} None (Some n) = h in cc)
    cases (Some (pos k)) t h =
        let c = chosen k (nat_le k most) refl h in
        ((numbers_law.1 w (pos k) t).0 ∙ ap (λ (j : ℕ). decimal j) c.0, c.1)
