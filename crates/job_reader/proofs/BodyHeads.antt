-- The first line of a body: its name and the locals that it lists.
use Rattle.std.proofs.Common.{◌≡◌, ℕ, Bool, true, false, ◌&&◌, List, [], ◌∷◌, Result, Ok, Err, refl}
use Rattle.std.specs.Prelude.{◌==◌, not, if◌then◌else◌}
use Rattle.std.specs.List.{list_all, list_any}
use Rattle.text_lines.specs.declared.refusal.Code.{Code}
use Rattle.text_lines.specs.declared.refusal.Code.TheVariants.{BadName, BadLine, Reserved}
use Rattle.task_code.specs.Names.{is_name, is_reserved, is_free, is_among, are_names}
use Rattle.job_reader.specs.Faults.{both, made}
use Rattle.job_reader.specs.Words.{Word, Words, named}
use Rattle.job_reader.proofs.SaidLemmas.{made-ok, both-ok, and-true}
use Rattle.job_reader.proofs.GrowLemmas.{and-left, and-right}
use Rattle.job_reader.specs.Grammar.{listed_in}
use Rattle.job_reader.specs.Reading.{all_named, may_list, body_of, are_apart}
use Rattle.job_reader.proofs.WrittenLemmas.{or-left, or-right}

-- what a body line that is read says
pub record HeadParts (format : ℕ) (name : Word) (locals : List Word) (head : Word × List Word) : Type 0 where
  pub same : (name, locals) ≡ head
  pub name_said : named name ≡ Ok tt
  pub locals_said : all_named locals ≡ Ok tt
  pub listed : listed_in format locals ≡ locals

may-listed : (format : ℕ) (ws : Words) → may_list format ws ≡ true → listed_in format ws ≡ ws
may-listed format [] e = by (format == 1)
  where
    by : (b : Bool) → ◌≡◌ {A = List Word} (if b then [] else []) []
    by true = refl
    by false = refl
may-listed format (w ∷ ws) e = by (format == 1) e
  where
    by : (b : Bool) → not b ≡ true → (if b then [] else w ∷ ws) ≡ w ∷ ws
    by true e = absurd cc
    by false e = refl

pub head-parts : (format : ℕ) (name : Word) (ws : Words) (head : Word × List Word) → body_of format (name ∷ ws) ≡ Ok head
    → HeadParts format name ws head
head-parts format name ws head e = by (may_list format ws) refl e
  where
    by : (b : Bool) → may_list format ws ≡ b
        → (if b then made (λ (_ : Unit {0} × Unit {0}). (name, ws)) (both (named name) (all_named ws)) else Err BadLine) ≡ Ok head
        → HeadParts format name ws head
    by true h e =
        let m = made-ok (λ (_ : Unit {0} × Unit {0}). (name, ws)) (both (named name) (all_named ws)) head e in
        let p = both-ok (named name) (all_named ws) m.0 m.1 in
        record { same = m.2; name_said = p.0; locals_said = p.1; listed = may-listed format ws h }
    by false h e = absurd cc

free-both : (n r : Bool) → n ≡ true → r ≡ false → (n && not r) ≡ true
free-both true true a b = absurd cc
free-both true false a b = refl
free-both false r a b = absurd cc

none-reserved : (ws : Words) → list_any is_reserved ws ≡ false → list_all is_name ws ≡ true → list_all is_free ws ≡ true
none-reserved [] e f = refl
none-reserved (w ∷ ws) e f =
    and-true _ _
    (free-both (is_name w) (is_reserved w) (and-left _ (list_all is_name ws) f) (or-left (is_reserved w) (list_any is_reserved ws) e))
    (none-reserved ws (or-right (is_reserved w) (list_any is_reserved ws) e) (and-right (is_name w) _ f))

-- names that are read may be used
pub all-free : (ws : Words) → all_named ws ≡ Ok tt → list_all is_free ws ≡ true
all-free ws e = by (list_any is_reserved ws) (list_all is_name ws) refl refl e
  where
    by : (a b : Bool) → list_any is_reserved ws ≡ a → list_all is_name ws ≡ b
        → ◌≡◌ {A = Result (Unit {0}) Code} (if a then Err Reserved else if b then Ok tt else Err BadName) (Ok tt)
        → list_all is_free ws ≡ true
    by true b h g e = absurd cc
    by false true h g e = none-reserved ws h g
    by false false h g e = absurd cc

-- and each once they are distinct names
pub apart-names : (ws : Words) → list_all is_free ws ≡ true → are_apart ws ≡ true → are_names ws ≡ true
apart-names [] e f = refl
apart-names (w ∷ ws) e f =
    and-true _ _ (and-true _ _ (and-left _ (list_all is_free ws) e) (and-left _ (are_apart ws) f))
    (apart-names ws (and-right (is_free w) _ e) (and-right (not (is_among ws w)) _ f))
