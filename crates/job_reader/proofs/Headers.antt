-- The first line of a job.
use Rattle.std.proofs.Common.{◌≡◌, ℕ, Bool, true, false, [], ◌∷◌, Some, None, refl, sym, ap, subst, ◌∙◌, codes, arith}
use Rattle.std.specs.Prelude.{if◌then◌else◌, ◌==◌, ◌||◌}
use Rattle.job_reader.proofs.NotedNames.{same-number}
use Rattle.std.specs.Str.{bytes_eq}
use Rattle.std.proofs.lemmas.Fmt.{decimal_digit}
use Rattle.task_code.specs.Rules.{is_format}
use Rattle.job_reader.specs.Words.{Word, Words}
use Rattle.job_reader.proofs.SaidLemmas.{same-word}
use Rattle.job_reader.specs.Grammar.{header_words}
use Rattle.job_reader.specs.Reading.{format_in, format_of}

-- a word that says a format
record SaysFormat (w : Word) (format : ℕ) : Type 0 where
  written : codes "bsp" ∷ w ∷ [] ≡ header_words format
  is : is_format format ≡ true

in-said : (w : Word) (format : ℕ) → format_in w ≡ Some format → SaysFormat w format
in-said w format e = by (bytes_eq w (codes "1")) (bytes_eq w (codes "2")) refl refl e
  where
    one : (w : Word) → w ≡ codes "1" → SaysFormat w 1
    one w e = record { written = ap (λ (x : Word). codes "bsp" ∷ x ∷ []) (e ∙ sym (decimal_digit 1 (omega arith))); is = refl }

    two : (w : Word) → w ≡ codes "2" → SaysFormat w 2
    two w e = record { written = ap (λ (x : Word). codes "bsp" ∷ x ∷ []) (e ∙ sym (decimal_digit 2 (omega arith))); is = refl }

    by : (a b : Bool) → bytes_eq w (codes "1") ≡ a → bytes_eq w (codes "2") ≡ b
        → (if a then Some 1 else if b then Some 2 else None) ≡ Some format → SaysFormat w format
    by true b h g e = let same : 1 ≡ format = cc in subst (SaysFormat w) same (one w (same-word w (codes "1") h))
    by false true h g e = let same : 2 ≡ format = cc in subst (SaysFormat w) same (two w (same-word w (codes "2") g))
    by false false h g e = absurd cc

-- the first line that is read is the one that is written
abbrev Says : Words → ℕ → Type 0
Says ws format = (ws ≡ header_words format) × (is_format format ≡ true)

says : (ws : Words) (format : ℕ) → format_of ws ≡ Some format → Says ws format
says [] format e = absurd cc
says (a ∷ []) format e = absurd cc
says (a ∷ b ∷ []) format e = by (bytes_eq a (codes "bsp")) refl e
  where
    by : (t : Bool) → bytes_eq a (codes "bsp") ≡ t → (if t then format_in b else None) ≡ Some format → Says (a ∷ b ∷ []) format
    by true h e =
        let s = in-said b format e in
        (ap (λ (x : Word). x ∷ b ∷ []) (same-word a (codes "bsp") h) ∙ s.written, s.is)
    by false h e = absurd cc
says (a ∷ b ∷ c ∷ ws) format e = absurd cc

pub header-said : (ws : Words) (format : ℕ) → format_of ws ≡ Some format → ws ≡ header_words format
header-said ws format e = (says ws format e).0

pub format-is : (ws : Words) (format : ℕ) → format_of ws ≡ Some format → is_format format ≡ true
format-is ws format e = (says ws format e).1

-- and what is written is read
pub format-written : (format : ℕ) → is_format format ≡ true → format_of (header_words format) ≡ Some format
format-written format e = by (format == 1) (format == 2) refl refl e
  where
    one : format_of (header_words 1) ≡ Some 1
    one = ap (λ (w : Word). format_of (codes "bsp" ∷ w ∷ [])) (decimal_digit 1 (omega arith))

    two : format_of (header_words 2) ≡ Some 2
    two = ap (λ (w : Word). format_of (codes "bsp" ∷ w ∷ [])) (decimal_digit 2 (omega arith))

    by : (a b : Bool) → (format == 1) ≡ a → (format == 2) ≡ b → (a || b) ≡ true → format_of (header_words format) ≡ Some format
    by true b h g e = subst (λ (x : ℕ). format_of (header_words x) ≡ Some x) (sym (same-number format 1 h)) one
    by false true h g e = subst (λ (x : ℕ). format_of (header_words x) ≡ Some x) (sym (same-number format 2 g)) two
    by false false h g e = absurd cc
