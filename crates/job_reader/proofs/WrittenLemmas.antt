-- Written words are read as what they were written for.
use Rattle.std.proofs.Common.{◌≡◌, ℕ, zero, suc, ◌+◌, ◌<◌, Bool, true, false, ◌&&◌, List, [], ◌∷◌, length, Option, Some, Result, Ok, Err, refl, sym, ap, ◌∙◌, arith, codes}
use Rattle.std.specs.Prelude.{if◌then◌else◌, not, ◌||◌, ◌&&◌, ◌==◌, nat_le}
use Rattle.std.specs.Str.{bytes_eq}
use Rattle.std.proofs.lemmas.Slice.Eq.{bytes_eq-Decides}
use Rattle.std.proofs.lemmas.Grind.{common_steps}
use Rattle.text_lines.specs.declared.refusal.Code.{Code}
use Rattle.text_lines.specs.declared.refusal.Code.TheVariants.{Reserved, BadName}
use Rattle.task_code.specs.Names.{is_lower, is_name, is_reserved, is_free, is_among, are_names}
use Rattle.task_code.specs.declared.code.Index.TheVariants as index
use Rattle.task_code.specs.declared.code.Operator.{Operator}
use Rattle.task_code.specs.declared.code.Operator.TheVariants.{
  Add,
  Subtract,
  Multiply,
  Divide,
  Remainder,
  Below,
  AtMost,
  Equal,
  NotEqual,
}
use Rattle.job_reader.specs.declared.lines.Keyword.{Keyword}
use Rattle.superstep_memory.specs.declared.arrays.PutKind.TheVariants as kind
use Rattle.job_reader.specs.declared.lines.Keyword.TheVariants.{Let, Put, Print, Spawn, Sync, Stop, If, Else, While, End}
use Rattle.job_reader.specs.Faults.{both, made}
use Rattle.job_reader.specs.Words.{Word, begins_number, named, place_from, or_unknown, declared_at, name_at, index_word, index_of}
use Rattle.job_reader.specs.Exprs.{operator_word, operator_of}
use Rattle.job_reader.specs.Lines.{keyword_of}
use Rattle.job_reader.proofs.SaidLemmas.{same-word}
use Rattle.job_reader.proofs.LineSaid.{keyword_text}
use Rattle.job_reader.proofs.GrowLemmas.{and-left, and-right}

pub same-bytes : (w : Word) → bytes_eq w w ≡ true
same-bytes w = (bytes_eq-Decides w w).1 refl

pub not-true : (b : Bool) → not b ≡ true → b ≡ false
not-true true e = absurd cc
not-true false e = refl

pub or-left : (a b : Bool) → (a || b) ≡ false → a ≡ false
or-left true b e = absurd cc
or-left false b e = refl

pub or-right : (a b : Bool) → (a || b) ≡ false → b ≡ false
or-right true b e = absurd cc
or-right false b e = e

-- a name that may be used has no fault
pub named-free : (w : Word) → is_free w ≡ true → named w ≡ Ok tt
named-free w e =
    name-cases (is_reserved w) (is_name w) (not-true (is_reserved w) (and-right (is_name w) _ e)) (and-left _ (not (is_reserved w)) e)
  where
    name-cases : (a b : Bool) → a ≡ false → b ≡ true
        → ◌≡◌ {A = Result (Unit {0}) Code} (if a then Err Reserved else if b then Ok tt else Err BadName) (Ok tt)
    name-cases true b h g = absurd cc
    name-cases false true h g = refl
    name-cases false false h g = absurd cc

-- a reserved word is no name that may be used
pub other-word : (b : Bool) (w k : Word) → bytes_eq w k ≡ b → is_reserved k ≡ true → is_reserved w ≡ false → b ≡ false
other-word true w k h r f = let same = ap is_reserved (same-word w k h) in let both : true ≡ false = sym r ∙ sym same ∙ f in absurd cc
other-word false w k h r f = refl

pub arg-reserved : is_reserved (codes "arg") ≡ true
unfolding is_reserved
arg-reserved = refl

pub step-reserved : is_reserved (codes "step") ≡ true
unfolding is_reserved
step-reserved = refl

pub lower-digit : (c : ℕ) → is_lower c ≡ true → ((c == 45) || (nat_le 48 c && nat_le c 57)) ≡ false
lower-digit c e = grind (arith, common_steps)

pub free-begins : (w : Word) → is_free w ≡ true → begins_number w ≡ false
free-begins [] e = refl
free-begins (c ∷ cs) e = lower-digit c (and-left _ _ (and-left _ _ (and-left _ (not (is_reserved (c ∷ cs))) e)))

pub among-not : (ns : List Word) (n : Word) (i : ℕ) → is_among ns n ≡ false → i < length ns → bytes_eq n (name_at ns i) ≡ false
among-not [] n i e h = absurd (omega arith)
among-not (m ∷ ns) n zero e h = turned (bytes_eq n m) refl
  where
    turned : (b : Bool) → bytes_eq n m ≡ b → b ≡ false
    turned true g =
        let same : m ≡ n = sym (same-word n m g) in
        let yes : bytes_eq m n ≡ true = (bytes_eq-Decides m n).1 same in
        let none : bytes_eq m n ≡ false = or-left (bytes_eq m n) (is_among ns n) e in
        let both : true ≡ false = sym yes ∙ none in
        absurd cc
    turned false g = refl
among-not (m ∷ ns) n (suc i) e h = among-not ns n i (or-right (bytes_eq m n) (is_among ns n) e) (omega arith)

-- a name that differs from the others is found at its place
pub place-name : (k : ℕ) (ns : List Word) (i : ℕ) → are_names ns ≡ true → i < length ns → place_from k ns (name_at ns i) ≡ Some (k + i)
place-name k [] i e h = absurd (omega arith)
place-name k (n ∷ ns) zero e h =
    let zero-more : k ≡ k + 0 = omega arith in
    ap (λ (b : Bool). if b then Some k else place_from (k + 1) ns n) (same-bytes n) ∙ ap (λ (x : ℕ). Some x) zero-more
place-name k (n ∷ ns) (suc i) e h =
    let apart : bytes_eq n (name_at ns i) ≡ false =
    among-not ns n i (not-true (is_among ns n) (and-right (is_free n) _ (and-left _ (are_names ns) e))) (omega arith) in
    let later = place-name (k + 1) ns i (and-right (is_free n && not (is_among ns n)) _ e) (omega arith) in
    let moved : k + 1 + i ≡ k + suc i = omega arith in
    ap (λ (b : Bool). if b then Some k else place_from (k + 1) ns (name_at ns i)) apart ∙ later ∙ ap (λ (x : ℕ). Some x) moved

pub names-free : (ns : List Word) (i : ℕ) → are_names ns ≡ true → i < length ns → is_free (name_at ns i) ≡ true
names-free [] i e h = absurd (omega arith)
names-free (n ∷ ns) zero e h = and-left _ _ (and-left _ (are_names ns) e)
names-free (n ∷ ns) (suc i) e h = names-free ns i (and-right (is_free n && not (is_among ns n)) _ e) (omega arith)

-- a declared name has no fault, and says its place
pub declared-written : (ns : List Word) (i : ℕ) → are_names ns ≡ true → i < length ns → declared_at ns (name_at ns i) ≡ Ok i
declared-written ns i e h =
    let place : place_from 0 ns (name_at ns i) ≡ Some i = place-name 0 ns i e h ∙ ap (λ (x : ℕ). Some x) (omega arith) in
    ap (λ (r : Result (Unit {0}) Code). made (λ p. p.1) (both r (or_unknown (place_from 0 ns (name_at ns i)))))
    (named-free (name_at ns i) (names-free ns i e h))
    ∙ ap (λ (o : Option ℕ). made (λ p. p.1) (both (Ok tt) (or_unknown o))) place

index-from : (locals : List Word) (w : Word) (a b c : Bool) → begins_number w ≡ a → bytes_eq w (codes "arg") ≡ b
    → bytes_eq w (codes "step") ≡ c → a ≡ false → b ≡ false → c ≡ false
    → index_of locals w ≡ made index.Local (declared_at locals w)
unfolding index_of
index-from locals w a b c h g f x y z = rw (h ∙ x, g ∙ y, f ∙ z) refl

-- the word of a local says it
pub local-written : (ns : List Word) (i : ℕ) → are_names ns ≡ true → i < length ns
    → index_of ns (index_word ns (index.Local i)) ≡ Ok (index.Local i)
local-written ns i e h =
    let w : Word = name_at ns i in
    let free : is_free w ≡ true = names-free ns i e h in
    let plain : is_reserved w ≡ false = not-true (is_reserved w) (and-right (is_name w) _ free) in
    index-from ns w (begins_number w) (bytes_eq w (codes "arg")) (bytes_eq w (codes "step")) refl refl refl
    (free-begins w free) (other-word _ w (codes "arg") refl arg-reserved plain) (other-word _ w (codes "step") refl step-reserved plain)
    ∙ ap (made index.Local) (declared-written ns i e h)

pub arg-written : (ns : List Word) → index_of ns (index_word ns index.Arg) ≡ Ok index.Arg
unfolding index_of
arg-written ns = refl

pub step-written : (ns : List Word) → index_of ns (index_word ns index.Step) ≡ Ok index.Step
unfolding index_of
step-written ns = refl

pub operator-written : (op : Operator) → operator_of (operator_word op) ≡ Ok op
unfolding operator_of
operator-written Add = refl
operator-written Subtract = refl
operator-written Multiply = refl
operator-written Divide = refl
operator-written Remainder = refl
operator-written Below = refl
operator-written AtMost = refl
operator-written Equal = refl
operator-written NotEqual = refl

pub keyword-written : (k : Keyword) → keyword_of (keyword_text k) ≡ Some k
unfolding keyword_of
keyword-written Let = refl
keyword-written (Put kind.Set) = refl
keyword-written (Put kind.Add) = refl
keyword-written Print = refl
keyword-written Spawn = refl
keyword-written Sync = refl
keyword-written Stop = refl
keyword-written If = refl
keyword-written Else = refl
keyword-written While = refl
keyword-written End = refl
