-- Lines that aren't skipped, one after the other.
use Rattle.std.proofs.Common.{◌≡◌, ℕ, ◌+◌, Bool, true, false, List, [], ◌∷◌, ◌++◌, Option, None, Result, Ok, refl, sym, ap, subst, ◌∙◌}
use Rattle.std.specs.Prelude.{if◌then◌else◌}
use Rattle.text_lines.specs.declared.refusal.Code.{Code}
use Rattle.text_lines.specs.Text.{words_of, is_skipped}
use Rattle.job_reader.specs.Words.{Word, Words}
use Rattle.job_reader.specs.Faults.{made}
use Rattle.job_reader.specs.Trees.{JobTree}
use Rattle.job_reader.specs.Above.{Inside, Above, nothing}
use Rattle.job_reader.specs.Grammar.{header_words, kept}
use Rattle.job_reader.specs.Reading.{◌>>=◌, at, any_line, is_missing, first_missing, line_step, finished, read_lines, read_behind, read_from, format_of}
use Rattle.task_code.specs.Rules.{is_format}
use Rattle.job_reader.proofs.Headers.{format-written}

-- the job so far, and the open body
abbrev pub Spot : Type 0
Spot = JobTree × Option Inside

-- a line that is read, and names no body that isn't there
pub record Passes (bodies : List Word) (ws : Words) (p q : Spot) : Type 0 where
  pub read : any_line bodies p.0 p.1 ws ≡ Ok q
  pub found : is_missing bodies ws ≡ false

-- each of these lines is read, the first one here, and the last one leads there
abbrev pub Reads : List Word → List Words → Spot → Spot → Type 0
Reads bodies [] p q = p ≡ q
Reads bodies (ws ∷ lines) p q = (r : Spot) × Passes bodies ws p r × Reads bodies lines r q

pub reads-append : (bodies : List Word) (xs ys : List Words) (p q r : Spot) → Reads bodies xs p q → Reads bodies ys q r
    → Reads bodies (xs ++ ys) p r
reads-append bodies [] ys p q r h k = subst (λ (s : Spot). Reads bodies ys s r) (sym h) k
reads-append bodies (x ∷ xs) ys p q r h k = (h.0, h.1, reads-append bodies xs ys h.0 q r h.2 k)

pub reads-one : (bodies : List Word) (ws : Words) (p q : Spot) → Passes bodies ws p q → Reads bodies (ws ∷ []) p q
reads-one bodies ws p q h = (q, h, refl)

-- what is above a line if all bodies that were named exist
abbrev pub above : Spot → Above
above p = record { job = p.0; inside = p.1; missing = None }

step-passes : (bodies : List Word) (n : ℕ) (ws : Words) (p q : Spot) → Passes bodies ws p q → line_step bodies n (above p) ws ≡ Ok (above q)
step-passes bodies n ws p q h =
    ap (made (λ r. record { job = r.0; inside = r.1; missing = first_missing None n (is_missing bodies ws) })) h.read
    ∙ ap (λ (b : Bool). Ok (record { job = q.0; inside = q.1; missing = first_missing None n b })) h.found

end-passes : (n : ℕ) (p q : Spot) (j : JobTree) → p ≡ q → q ≡ (j, None) → finished n (above p) p.1 None ≡ Ok j
end-passes n p q j e f = ap (λ (r : Spot). finished n (above r) r.1 None) (e ∙ f)

-- the first line, and those after it
abbrev head_of : List Words → Words
head_of [] = []
head_of (w ∷ ws) = w

abbrev tail_of : List Words → List Words
tail_of [] = []
tail_of (w ∷ ws) = ws

module _ (bodies : List Word) (l : List ℕ) (ls : List (List ℕ)) (n : ℕ) (j : JobTree) where
  abbrev Rest : Spot → Type 0
  Rest q = (r : Spot) → Reads bodies (kept ls) r q → read_lines bodies (n + 1) (above r) ls ≡ Ok j

  line-read : (p q : Spot) (b : Bool) → is_skipped (words_of l) ≡ b → Reads bodies (if b then kept ls else words_of l ∷ kept ls) p q
      → Rest q
      → read_lines bodies n (above p) (l ∷ ls) ≡ Ok j
  line-read p q true s h rest =
      ap
      (λ (b : Bool). at n (if b then Ok (above p) else line_step bodies n (above p) (words_of l)) >>= λ b. read_lines bodies (n + 1) b ls)
      s
      ∙ rest p h
  line-read p q false s h rest =
      ap
      (λ (b : Bool). at n (if b then Ok (above p) else line_step bodies n (above p) (words_of l)) >>= λ b. read_lines bodies (n + 1) b ls)
      s
      ∙ ap (λ (r : Result Above Code). at n r >>= λ b. read_lines bodies (n + 1) b ls) (step-passes bodies n (words_of l) p h.0 h.1)
      ∙ rest h.0 h.2

  header-line : (format : ℕ) (rest : List Words) (b : Bool) → is_format format ≡ true → is_skipped (words_of l) ≡ b
      → (if b then kept ls else words_of l ∷ kept ls) ≡ header_words format ∷ rest
      → (kept ls ≡ header_words format ∷ rest → read_from bodies (n + 1) ls ≡ Ok j)
      → ((m : ℕ) (behind : List (List ℕ)) → kept behind ≡ rest → read_lines bodies m (nothing format) behind ≡ Ok j)
      → read_from bodies n (l ∷ ls) ≡ Ok j
  header-line format rest true is s e later h =
      ap (λ (b : Bool). if b then read_from bodies (n + 1) ls else read_behind bodies n (format_of (words_of l)) ls) s ∙ later e
  header-line format rest false is s e later h =
      let first : words_of l ≡ header_words format = ap head_of e in
      let others : kept ls ≡ rest = ap tail_of e in
      ap (λ (b : Bool). if b then read_from bodies (n + 1) ls else read_behind bodies n (format_of (words_of l)) ls) s
      ∙ ap (λ (o : Option ℕ). read_behind bodies n o ls) (ap format_of first ∙ format-written format is)
      ∙ h (n + 1) ls others

-- lines that are read one after the other are the lines of a text, if others are skipped
pub lines-read : (bodies : List Word) (ls : List (List ℕ)) (n : ℕ) (p q : Spot) (j : JobTree) → Reads bodies (kept ls) p q → q ≡ (j, None)
    → read_lines bodies n (above p) ls ≡ Ok j
lines-read bodies [] n p q j h e = end-passes n p q j h e
lines-read bodies (l ∷ ls) n p q j h e =
    line-read bodies l ls n j p q (is_skipped (words_of l)) refl h (λ r k. lines-read bodies ls (n + 1) r q j k e)

-- after the first line that isn't skipped, which is the header
pub header-read : (bodies : List Word) (format : ℕ) (ls : List (List ℕ)) (n : ℕ) (rest : List Words) (j : JobTree) → is_format format ≡ true
    → kept ls ≡ header_words format ∷ rest
    → ((m : ℕ) (behind : List (List ℕ)) → kept behind ≡ rest → read_lines bodies m (nothing format) behind ≡ Ok j)
    → read_from bodies n ls ≡ Ok j
header-read bodies format [] n rest j is e h = absurd cc
header-read bodies format (l ∷ ls) n rest j is e h =
    header-line bodies l ls n j format rest (is_skipped (words_of l)) is refl e (λ k. header-read bodies format ls (n + 1) rest j is k h) h
