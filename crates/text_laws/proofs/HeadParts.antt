-- The parts of a head: words that are taken, and the numbers that they say.
use Rattle.std.proofs.Common.{◌≡◌, ℕ, ◌≤◌, inl, inr, Bool, true, false, cond, List, [], ◌∷◌, ◌++◌, Option, None, Some, refl, sym, ap, subst, ◌∙◌, arith, ℤ, pos, negsuc, FitsSigned, w64}
use Rattle.std.specs.Prelude.{decimal, option_map, option_and_then}
use Rattle.std.specs.Str.{bytes_eq}
use Rattle.std.proofs.lemmas.Int.{ints}
use Rattle.std.proofs.lemmas.Grind.{common_steps}
use Rattle.std.proofs.lemmas.Slice.Eq.{bytes_eq-Decides}
use Rattle.text_lines.specs.Number.{number_of}
use Rattle.text_lines.proofs.NumbersLemmas.{numbers_law, decimal-begins}
use Rattle.trace_text.specs.Words.{Word, up_to, begins_number, take_number, take_behind, ended, number_or, number_if}
use Rattle.trace_text.specs.TreeWords.{take_keyword}
use Rattle.trace_text.specs.BarrierWords.{not_below_zero, generation_if}
use Rattle.trace_text.proofs.ReadWords.{small-read, up-to-read, up-to-said}
use Rattle.text_laws.specs.Heads.{IsNumberOr, IsKeyOr, IsKey, IsWordIf, IsUpTo}

-- the words of a number that may lack, and of a keyword with one
abbrev pub alone : Option Word → List Word
alone None = []
alone (Some w) = w ∷ []

abbrev pub keyed : Word → Option Word → List Word
keyed key None = []
keyed key (Some w) = key ∷ w ∷ []

abbrev pub Begins : Option Word → Type 0
Begins None = Unit {0}
Begins (Some w) = begins_number w ≡ true

-- words

pub taken-number : (ws : List Word) → (ws ≡ alone (take_number ws).0 ++ (take_number ws).1) × Begins (take_number ws).0
taken-number [] = (refl, tt)
taken-number (w ∷ ws) = chosen (begins_number w) refl
  where
    chosen : (b : Bool) → begins_number w ≡ b
        → let r : Option Word × List Word = cond b (Some w, ws) (None, w ∷ ws) in (w ∷ ws ≡ alone r.0 ++ r.1) × Begins r.0
    chosen true e = (refl, e)
    chosen false e = (refl, tt)

pub taken-behind : (key : Word) (ws : List Word) (r : Option Word × List Word) → take_behind key ws ≡ Some r → ws ≡ keyed key r.0 ++ r.1
taken-behind key [] r e = let same : ◌≡◌ {A = Option Word × List Word} (None, []) r = cc in
    ap (λ (x : Option Word × List Word). keyed key x.0 ++ x.1) same
taken-behind key (w ∷ []) r e = chosen (bytes_eq w key) e
  where
    chosen : (b : Bool) → cond {A = Option (Option Word × List Word)} b None (Some (None, w ∷ [])) ≡ Some r → w ∷ [] ≡ keyed key r.0 ++ r.1
    chosen true h = absurd (let wrong : ◌≡◌ {A = Option (Option Word × List Word)} None (Some r) = h in cc)
    chosen false h = let same : ◌≡◌ {A = Option Word × List Word} (None, w ∷ []) r = cc in
        ap (λ (x : Option Word × List Word). keyed key x.0 ++ x.1) same
taken-behind key (w ∷ v ∷ ws) r e = chosen (bytes_eq w key) refl e
  where
    chosen : (b : Bool) → bytes_eq w key ≡ b
        → cond {A = Option (Option Word × List Word)} b (Some (Some v, ws)) (Some (None, w ∷ v ∷ ws)) ≡ Some r
        → w ∷ v ∷ ws ≡ keyed key r.0 ++ r.1
    chosen true t h =
        let same : ◌≡◌ {A = Option Word × List Word} (Some v, ws) r = cc in
        ap (λ (x : Word). x ∷ v ∷ ws) ((bytes_eq-Decides w key).0 t) ∙ ap (λ (x : Option Word × List Word). keyed key x.0 ++ x.1) same
    chosen false t h = let same : ◌≡◌ {A = Option Word × List Word} (None, w ∷ v ∷ ws) r = cc in
        ap (λ (x : Option Word × List Word). keyed key x.0 ++ x.1) same

-- the words of a keyword that may lack
abbrev pub worded : Word → Bool → List Word
worded key false = []
worded key true = key ∷ []

pub taken-keyword : (key : Word) (ws : List Word) → ws ≡ worded key (take_keyword key ws).0 ++ (take_keyword key ws).1
taken-keyword key [] = refl
taken-keyword key (w ∷ ws) = chosen (bytes_eq w key) refl
  where
    chosen : (b : Bool) → bytes_eq w key ≡ b → let r : Bool × List Word = cond b (true, ws) (false, w ∷ ws) in
        w ∷ ws ≡ worded key r.0 ++ r.1
    chosen true t = ap (λ (x : Word). x ∷ ws) ((bytes_eq-Decides w key).0 t)
    chosen false t = refl

pub at-end : {A : Type 0} (a b : A) (ws : List Word) → ended a ws ≡ Some b → (ws ≡ []) × (a ≡ b)
at-end a b [] e = (refl, cc)
at-end {A} a b (w ∷ ws) e = absurd (let wrong : ◌≡◌ {A = Option A} None (Some b) = e in cc)

-- numbers

-- what a part says is what it is written as

pub number-said : (most usual n : ℕ) (o : Option Word) → usual ≤ most → number_or most usual o ≡ Some n
    → IsNumberOr usual n (alone o) × (n ≤ most)
number-said most usual n None u e = let same : usual ≡ n = cc in (inr (sym same, refl), omega arith)
number-said most usual n (Some w) u e = let s = up-to-said most n w e in (inl (ap (λ (x : Word). x ∷ []) s.0), s.1)

pub key-said : (key : Word) (most usual n : ℕ) (o : Option Word) → usual ≤ most → number_or most usual o ≡ Some n
    → IsKeyOr key usual n (keyed key o) × (n ≤ most)
key-said key most usual n None u e = let same : usual ≡ n = cc in (inr (sym same, refl), omega arith)
key-said key most usual n (Some w) u e = let s = up-to-said most n w e in (inl (ap (λ (x : Word). key ∷ x ∷ []) s.0), s.1)

from-some : (o : Option ℕ) (a : Option ℕ) → option_map Some o ≡ Some a → (n : ℕ) × (o ≡ Some n) × (Some n ≡ a)
from-some (Some n) a e = (n, refl, cc)
from-some None a e = absurd (let wrong : ◌≡◌ {A = Option (Option ℕ)} None (Some a) = e in cc)

pub if-said : (key : Word) (most : ℕ) (a : Option ℕ) (o : Option Word) → number_if most o ≡ Some a
    → IsKey key a (keyed key o) × IsUpTo most a
if-said key most a None e =
    let same : ◌≡◌ {A = Option ℕ} None a = cc in
    let P : Option ℕ → Type 0 = λ x. IsKey key x [] × IsUpTo most x in
    subst P same (refl, tt)
if-said key most a (Some w) e =
    let m = from-some (up_to most (number_of w)) a e in
    let s = up-to-said most m.0 w m.1 in
    let P : Option ℕ → Type 0 = λ x. IsKey key x (key ∷ w ∷ []) × IsUpTo most x in
    subst P m.2 (ap (λ (x : Word). key ∷ x ∷ []) s.0, s.1)

-- what a part is written as is what it says

pub record IsPart (words : List Word) (n most usual : ℕ) : Type 0 where
  pub word : Option Word
  pub same : words ≡ alone word
  pub begins : Begins word
  pub says : number_or most usual word ≡ Some n

pub number-part : (most usual n : ℕ) (words : List Word) → most ≤ 9223372036854775807 → n ≤ most → IsNumberOr usual n words
    → IsPart words n most usual
number-part most usual n words m h (inl e) = record {
  word = Some (decimal n);
  same = e;
  begins = decimal-begins n (omega arith);
  says = up-to-read most n m h;
}
number-part most usual n words m h (inr e) = record { word = None; same = e.1; begins = tt; says = ap (λ (x : ℕ). Some x) (sym e.0) }

pub record IsKeyPart (key : Word) (words : List Word) (n most usual : ℕ) : Type 0 where
  pub word : Option Word
  pub same : words ≡ keyed key word
  pub says : number_or most usual word ≡ Some n

pub key-part : (key : Word) (most usual n : ℕ) (words : List Word) → most ≤ 9223372036854775807 → n ≤ most → IsKeyOr key usual n words
    → IsKeyPart key words n most usual
key-part key most usual n words m h (inl e) = record { word = Some (decimal n); same = e; says = up-to-read most n m h }
key-part key most usual n words m h (inr e) = record { word = None; same = e.1; says = ap (λ (x : ℕ). Some x) (sym e.0) }

pub record IsIfPart (key : Word) (words : List Word) (a : Option ℕ) (most : ℕ) : Type 0 where
  pub word : Option Word
  pub same : words ≡ keyed key word
  pub says : number_if most word ≡ Some a

pub if-part : (key : Word) (most : ℕ) (a : Option ℕ) (words : List Word) → most ≤ 9223372036854775807 → IsUpTo most a → IsKey key a words
    → IsIfPart key words a most
if-part key most None words m h e = record { word = None; same = e; says = refl }
if-part key most (Some n) words m h e = record { word = Some (decimal n); same = e; says = ap (option_map Some) (up-to-read most n m h) }

pub worded-said : (key : Word) (b : Bool) → IsWordIf key b (worded key b)
worded-said key false = refl
worded-said key true = refl

pub worded-is : (key : Word) (b : Bool) (words : List Word) → IsWordIf key b words → words ≡ worded key b
worded-is key false words e = e
worded-is key true words e = e

pub next-some : {A B : Type 0} (f : A → Option B) (o : Option A) (a : A) → o ≡ Some a → option_and_then f o ≡ f a
next-some f o a e = ap (option_and_then f) e

-- a number from 0 on

below-zero-said : (n : ℕ) (w : Word) → not_below_zero (number_of w) ≡ Some n → (w ≡ decimal n) × (n ≤ 9223372036854775807)
below-zero-said n w e = cases (number_of w) refl e
  where
    cases : (o : Option ℤ) → number_of w ≡ o → not_below_zero o ≡ Some n → (w ≡ decimal n) × (n ≤ 9223372036854775807)
    cases None t h = absurd (let wrong : ◌≡◌ {A = Option ℕ} None (Some n) = h in cc)
    cases (Some (negsuc k)) t h = absurd (let wrong : ◌≡◌ {A = Option ℕ} None (Some n) = h in cc)
    cases (Some (pos k)) t h =
        let same : k ≡ n = cc in
        let s = numbers_law.1 w (pos k) t in
        let fits : FitsSigned w64 (pos k) = s.1 in
        let small : k ≤ 9223372036854775807 = grind (arith, common_steps, ints, fits) in
        (s.0 ∙ ap (λ (j : ℕ). decimal j) same, subst (λ (j : ℕ). j ≤ 9223372036854775807) same small)

pub generation-said : (key : Word) (a : Option ℕ) (o : Option Word) → generation_if o ≡ Some a
    → IsKey key a (keyed key o) × IsUpTo 9223372036854775807 a
generation-said key a None e =
    let same : ◌≡◌ {A = Option ℕ} None a = cc in
    let P : Option ℕ → Type 0 = λ x. IsKey key x [] × IsUpTo 9223372036854775807 x in
    subst P same (refl, tt)
generation-said key a (Some w) e =
    let m = from-some (not_below_zero (number_of w)) a e in
    let s = below-zero-said m.0 w m.1 in
    let P : Option ℕ → Type 0 = λ x. IsKey key x (key ∷ w ∷ []) × IsUpTo 9223372036854775807 x in
    subst P m.2 (ap (λ (x : Word). key ∷ x ∷ []) s.0, s.1)

pub record IsGenerationPart (key : Word) (words : List Word) (a : Option ℕ) : Type 0 where
  pub word : Option Word
  pub same : words ≡ keyed key word
  pub says : generation_if word ≡ Some a

pub generation-part : (key : Word) (a : Option ℕ) (words : List Word) → IsUpTo 9223372036854775807 a → IsKey key a words
    → IsGenerationPart key words a
generation-part key None words h e = record { word = None; same = e; says = refl }
generation-part key (Some n) words h e = record {
  word = Some (decimal n);
  same = e;
  says = ap (λ (o : Option ℤ). option_map Some (not_below_zero o)) (small-read 9223372036854775807 n (omega arith) h);
}
