-- A text that is read is the text of its job.
use Rattle.std.proofs.Common.{◌⊎◌, inl, inr, ◌≡◌, ℕ, ◌+◌, Bool, true, false, List, [], ◌∷◌, length, take, take_all, Option, Some, None, Result, Ok, Err, refl, sym, ap, subst, ◌∙◌, arith}
use Rattle.std.specs.Prelude.{if◌then◌else◌, nat_lt}
use Rattle.std.specs.List.{cons_option}
use Rattle.text_lines.specs.declared.refusal.Refusal.{Refusal}
use Rattle.text_lines.specs.Text.{lines_of, words_of, is_skipped, bad_byte_line}
use Rattle.job_reader.specs.Words.{Word, Words}
use Rattle.job_reader.specs.Trees.{JobTree, body_names}
use Rattle.job_reader.specs.Above.{nothing}
use Rattle.job_reader.specs.Grammar.{header_words, kept, IsTextOf}
use Rattle.job_reader.specs.Reading.{format_of, outer_of, declared_by, declared, read_lines, read_behind, read_from, job_in}
use Rattle.job_reader.specs.Laws.{IsRead, IsRefused, EachTextIsReadOrRefused}
use Rattle.job_reader.proofs.ItemLemmas.{SpelledOut, spelled-out-nothing}
use Rattle.job_reader.proofs.SpelledText.{lines-spelled-out, lines-format}
use Rattle.job_reader.proofs.Headers.{header-said}
use Rattle.job_reader.proofs.SpelledNames.{names_in, lines-named, skipped-none}
use Rattle.job_reader.proofs.KeptLines.{long-ok}

header-none : (format : ℕ) → declared_by (header_words format) ≡ None
unfolding outer_of
header-none format = refl

-- the lines after the first one, which is the header
record Begun (bodies : List Word) (ls : List (List ℕ)) (j : JobTree) : Type 0 where
  format : ℕ
  rest : List (List ℕ)
  line : ℕ
  kept_lines : kept ls ≡ header_words format ∷ kept rest
  named : names_in ls ≡ names_in rest
  read : read_lines bodies line (nothing format) rest ≡ Ok j

begun-cases : (bodies : List Word) (n : ℕ) (l : List ℕ) (ls : List (List ℕ)) (j : JobTree) (a : Bool) (o : Option ℕ)
    → is_skipped (words_of l) ≡ a
    → format_of (words_of l) ≡ o
    → (read_from bodies (n + 1) ls ≡ Ok j → Begun bodies ls j)
    → (if a then read_from bodies (n + 1) ls else read_behind bodies n o ls) ≡ Ok j → Begun bodies (l ∷ ls) j
begun-cases bodies n l ls j true o h g later e =
    let r = later e in
    record {
      format = r.format;
      rest = r.rest;
      line = r.line;
      kept_lines = ap (λ (x : Bool). if x then kept ls else words_of l ∷ kept ls) h ∙ r.kept_lines;
      named = ap (λ (o : Option Word). cons_option o (names_in ls)) (skipped-none (words_of l) h) ∙ r.named;
      read = r.read;
    }
begun-cases bodies n l ls j false (Some format) h g later e =
    let header : words_of l ≡ header_words format = header-said (words_of l) format g in
    record {
      format = format;
      rest = ls;
      line = n + 1;
      kept_lines = ap (λ (x : Bool). if x then kept ls else words_of l ∷ kept ls) h ∙ ap (λ (w : Words). w ∷ kept ls) header;
      named =
          ap (λ (w : Words). cons_option (declared_by w) (names_in ls)) header
          ∙ ap (λ (o : Option Word). cons_option o (names_in ls)) (header-none format);
      read = e;
    }
begun-cases bodies n l ls j false None h g later e = absurd cc

begins : (bodies : List Word) (ls : List (List ℕ)) (n : ℕ) (j : JobTree) → read_from bodies n ls ≡ Ok j → Begun bodies ls j
begins bodies [] n j e = absurd cc
begins bodies (l ∷ ls) n j e =
    begun-cases bodies n l ls j (is_skipped (words_of l)) (format_of (words_of l)) refl refl (begins bodies ls (n + 1) j) e

-- the first lines read leave the format as it was
lines-are-text : (ls : List (List ℕ)) (j : JobTree) → read_from (declared ls) 1 ls ≡ Ok j → IsTextOf j (kept ls)
lines-are-text ls j e =
    let b = begins (declared ls) ls 1 j e in
    let names = lines-named (declared ls) b.rest b.line (nothing b.format) j (omega arith) b.read in
    let all : names_in ls ≡ body_names j = b.named ∙ sym names.0 in
    let same : declared ls ≡ body_names j =
    ap (λ (x : List Word). take 64 x) all ∙ take_all 64 (body_names j) names.1 in
    let spelled_out : SpelledOut (body_names j) (kept b.rest) j =
    subst (λ (x : List Word). SpelledOut x (kept b.rest) j) same
    (lines-spelled-out (declared ls) b.rest b.line (nothing b.format) [] j (spelled-out-nothing b.format (declared ls)) b.read) in
    let format : j.format ≡ b.format = lines-format (declared ls) b.rest b.line (nothing b.format) j b.read in
    record {
      items = spelled_out.items;
      written =
          b.kept_lines ∙ ap (λ (f : ℕ). header_words f ∷ kept b.rest) (sym format)
          ∙ ap (λ (x : List Words). header_words j.format ∷ x) spelled_out.written;
      said = spelled_out.said;
      sound = spelled_out.sound;
    }

-- what a text says as a job has that text
pub text-spelled-out : (text : List ℕ) (j : JobTree) → job_in text ≡ Ok j → IsTextOf j (kept (lines_of text))
unfolding job_in
text-spelled-out text j e =
    lines-are-text (lines_of text) j
    (long-ok (nat_lt 1048576 (length text)) (bad_byte_line 1 text) (read_from (declared (lines_of text)) 1 (lines_of text)) j e)

judged : (text : List ℕ) (r : Result JobTree Refusal) → job_in text ≡ r → IsRead text ⊎ IsRefused text
judged text (Ok j) e = inl (j, e, text-spelled-out text j e)
judged text (Err c) e = inr (c, e)

never-both : (text : List ℕ) → IsRead text → IsRefused text → ⊥
never-both text a b = let same : ◌≡◌ {A = Result JobTree Refusal} (Ok a.0) (Err b.0) = sym a.1 ∙ b.1 in cc

pub each-text : EachTextIsReadOrRefused
each-text = λ text. (judged text (job_in text) refl, λ a b. never-both text a b)

pub ruleset text_steps = (text-spelled-out)
