-- The first line of a body, as it is written, is read.
use Rattle.std.proofs.Common.{◌≡◌, ℕ, ◌≤◌, Bool, true, false, List, [], ◌∷◌, length, Result, Ok, Err, refl, ap, ◌∙◌, arith}
use Rattle.std.specs.Prelude.{◌==◌, not, if◌then◌else◌}
use Rattle.std.specs.List.{list_all, list_any}
use Rattle.text_lines.specs.declared.refusal.Code.{Code}
use Rattle.text_lines.specs.declared.refusal.Code.TheVariants.{BadName, BadLine, Reserved}
use Rattle.task_code.specs.Names.{is_name, is_reserved, is_free, is_among, are_names}
use Rattle.job_reader.specs.Faults.{both, made}
use Rattle.job_reader.specs.Words.{Word, named}
use Rattle.job_reader.proofs.GrowLemmas.{and-left, and-right}
use Rattle.job_reader.proofs.SaidLemmas.{and-true}
use Rattle.job_reader.proofs.WrittenLemmas.{named-free, not-true}
use Rattle.job_reader.specs.Grammar.{listed_in}
use Rattle.job_reader.specs.Reading.{all_named, may_list, body_of, are_apart}
use Rattle.job_reader.proofs.NotedNames.{or-false as or-none}
use Rattle.text_laws.proofs.Known.{first-free as free-of, names-rest as rest-of}

none-first : (format : ℕ) (ls : List Word) → (format == 1) ≡ false → may_list format ls ≡ true
none-first format [] e = refl
none-first format (w ∷ ws) e = ap not e

may-listed : (format : ℕ) (ls : List Word) → may_list format (listed_in format ls) ≡ true
may-listed format ls = by (format == 1) refl
  where
    by : (b : Bool) → (format == 1) ≡ b → may_list format (if b then [] else ls) ≡ true
    by true e = refl
    by false e = none-first format ls e

none-reserved : (ns : List Word) → are_names ns ≡ true → list_any is_reserved ns ≡ false
none-reserved [] e = refl
none-reserved (n ∷ ns) e =
    or-none (is_reserved n) (list_any is_reserved ns)
    (not-true (is_reserved n) (and-right (is_name n) (not (is_reserved n)) (free-of n ns e))) (none-reserved ns (rest-of n ns e))

all-names : (ns : List Word) → are_names ns ≡ true → list_all is_name ns ≡ true
all-names [] e = refl
all-names (n ∷ ns) e = and-true _ _ (and-left (is_name n) (not (is_reserved n)) (free-of n ns e)) (all-names ns (rest-of n ns e))

all-named : (ns : List Word) → are_names ns ≡ true → all_named ns ≡ Ok tt
all-named ns e =
    ap (λ (b : Bool). if b then Err Reserved else if list_all is_name ns then Ok tt else Err BadName) (none-reserved ns e)
    ∙ ap (λ (b : Bool). if b then Ok tt else Err BadName) (all-names ns e)

pub apart : (ns : List Word) → are_names ns ≡ true → are_apart ns ≡ true
apart [] e = refl
apart (n ∷ ns) e = and-true _ _ (and-right (is_free n) (not (is_among ns n)) (and-left _ (are_names ns) e)) (apart ns (rest-of n ns e))

pub listed-names : (format : ℕ) (ns : List Word) → are_names ns ≡ true → are_names (listed_in format ns) ≡ true
listed-names format ns e = by (format == 1)
  where
    by : (b : Bool) → are_names (if b then [] else ns) ≡ true
    by true = refl
    by false = e

pub listed-few : (format : ℕ) (ns : List Word) → length ns ≤ 32 → length (listed_in format ns) ≤ 32
listed-few format ns h = by (format == 1)
  where
    by : (b : Bool) → length (if b then [] else ns) ≤ 32
    by true = omega arith
    by false = h

pub head-read : (format : ℕ) (name : Word) (locals : List Word) → is_free name ≡ true → are_names locals ≡ true
    → body_of format (name ∷ listed_in format locals) ≡ Ok (name, listed_in format locals)
head-read format name locals free names =
    let ls : List Word = listed_in format locals in
    ap (λ (b : Bool). if b then made (λ (_ : Unit {0} × Unit {0}). (name, ls)) (both (named name) (all_named ls)) else Err BadLine)
    (may-listed format locals)
    ∙ ap (λ (r : Result (Unit {0}) Code). made (λ (_ : Unit {0} × Unit {0}). (name, ls)) (both r (all_named ls))) (named-free name free)
    ∙ ap (λ (r : Result (Unit {0}) Code). made (λ (_ : Unit {0} × Unit {0}). (name, ls)) (both (Ok tt) r))
    (all-named ls (listed-names format locals names))
