-- Lines that are read to their end are a job's text, if each body that they name exists.
use Rattle.std.proofs.Common.{◌≡◌, inl, inr, ℕ, ◌+◌, ◌≤◌, Bool, true, false, ◌&&◌, List, [], ◌∷◌, length, Option, Some, None, option_map, Result, Ok, refl, sym, ap, ◌∙◌}
use Rattle.std.specs.Prelude.{if◌then◌else◌, not}
use Rattle.std.specs.List.{list_all}
use Rattle.text_lines.specs.declared.refusal.Code.{Code}
use Rattle.text_lines.specs.Text.{lines_of, words_of, is_skipped, is_allowed, bad_byte_line}
use Rattle.text_lines.specs.Laws.{is_line, joined}
use Rattle.text_lines.proofs.Readings.{joined_lines}
use Rattle.job_reader.specs.Words.{Word, Words}
use Rattle.job_reader.proofs.SaidLemmas.{made-ok}
use Rattle.job_reader.proofs.GrowLemmas.{and-left, and-right}
use Rattle.job_reader.specs.Trees.{JobTree}
use Rattle.job_reader.specs.Above.{Inside, Above}
use Rattle.job_reader.specs.Reading.{
  ◌>>=◌,
  at,
  format_of,
  any_line,
  is_missing,
  first_missing,
  line_step,
  kept_step,
  finished,
  read_from,
  unless_bad,
  declared,
  job_in,
}
use Rattle.job_reader.proofs.SpelledOuter.{bind-ok}
use Rattle.text_laws.specs.Laws.{IsAJobs}
use Rattle.text_laws.proofs.Joined.{texts-are-read}
use Rattle.text_laws.proofs.Seen.{Seen, seen_body, seen}
use Rattle.text_laws.proofs.Folds.{step, read, glance, see_words, see_lines, missing_in, header-missing, skip-ok, read-next, step-seen}
use Rattle.text_laws.proofs.BadLines.{bad_line, by-lines}
use Rattle.text_laws.proofs.Held.{short-read}
use Rattle.job_reader.proofs.WrittenLemmas.{not-true}

-- the bodies that these lines name are there
abbrev pub are_found : List Word → List (List ℕ) → Bool
are_found bodies ls = list_all (λ l. not (is_missing bodies (words_of l))) ls

none-inside : (i : Option Inside) → option_map seen_body i ≡ None → i ≡ None
none-inside None e = refl
none-inside (Some o) e = absurd cc

module _ (bodies : List Word) where
  line-found : (n : ℕ) (a b : Above) (ws : Words) → a.missing ≡ None → is_missing bodies ws ≡ false → line_step bodies n a ws ≡ Ok b
      → b.missing ≡ None
  line-found n a b ws h f e =
      let g : JobTree × Option Inside → Above =
      λ p. record { job = p.0; inside = p.1; missing = first_missing a.missing n (is_missing bodies ws) } in
      let m = made-ok g (any_line bodies a.job a.inside ws) b e in
      ap (λ (x : Above). x.missing) (sym m.2)
      ∙ ap (λ (o : Option ℕ). first_missing o n (is_missing bodies ws)) h
      ∙ ap (λ (t : Bool). first_missing None n t) f

  kept-found : (n : ℕ) (a b : Above) (ws : Words) → a.missing ≡ None → is_missing bodies ws ≡ false → kept_step bodies n a ws ≡ Ok b
      → b.missing ≡ None
  kept-found n a b ws h f e =
      elim (skip-ok (is_skipped ws) a b (line_step bodies n a ws) e) [
        | inl x ↦ ap (λ (y : Above). y.missing) (sym x) ∙ h
        | inr x ↦ line-found n a b ws h f x
      ]

  step-found : (n : ℕ) (p q : Option Above) (ws : Words) → missing_in p ≡ None → is_missing bodies ws ≡ false → step bodies n p ws ≡ Ok q
      → missing_in q ≡ None
  step-found n None q ws h f e = header-missing (is_skipped ws) (format_of ws) q e
  step-found n (Some a) q ws h f e =
      let m = made-ok (λ (b : Above). Some b) (kept_step bodies n a ws) q e in
      ap missing_in (sym m.2) ∙ kept-found n a m.0 ws h f m.1

  end-read : (n : ℕ) (p : Option Above) (w : Seen) → missing_in p ≡ None → glance p ≡ Some w → w.inside ≡ None
      → (j : JobTree) × (read bodies n p [] ≡ Ok j)
  end-read n None w h e c = absurd cc
  end-read n (Some a) w h e c =
      let same : seen a ≡ w = cc in
      let none : a.inside ≡ None = none-inside a.inside (ap (λ (v : Seen). v.inside) same ∙ c) in
      (a.job, ap (λ (i : Option Inside). finished n a i a.missing) none ∙ ap (finished n a None) h)

  whole-read : (ls : List (List ℕ)) (n : ℕ) (p : Option Above) (w : Seen) → missing_in p ≡ None → are_found bodies ls ≡ true
      → see_lines (glance p) ls ≡ Ok (Some w) → w.inside ≡ None
      → (j : JobTree) × (read bodies n p ls ≡ Ok j)
  whole-read [] n p w h f e c = let same : glance p ≡ Some w = cc in end-read n p w h same c
  whole-read (l ∷ ls) n p w h f e c =
      let m = bind-ok (see_words (glance p) (words_of l)) (λ (v : Option Seen). see_lines v ls) (Some w) e in
      let s = made-ok glance (step bodies n p (words_of l)) m.0 (step-seen bodies n p (words_of l) ∙ m.1) in
      let found : is_missing bodies (words_of l) ≡ false = not-true _ (and-left _ (are_found bodies ls) f) in
      let rest =
      whole-read ls (n + 1) s.0 w (step-found n p s.0 (words_of l) h found s.1) (and-right (not (is_missing bodies (words_of l))) _ f)
      (ap (λ (v : Option Seen). see_lines v ls) s.2 ∙ m.2) c in (
        rest.0,
        read-next bodies n p l ls
            ∙ ap (λ (r : Result (Option Above) Code). at n r >>= λ q. read bodies (n + 1) q ls) s.1
            ∙ rest.1,
      )

-- lines of allowed bytes
abbrev pub are_allowed : List (List ℕ) → Bool
are_allowed ls = list_all (λ l. list_all is_allowed l) ls

if-none : (b : Bool) (o : Option ℕ) (n : ℕ) → (if b then o else Some n) ≡ None → (b ≡ true) × (o ≡ None)
if-none true o n e = (refl, e)
if-none false o n e = absurd cc

pub none-bad : (ls : List (List ℕ)) (n : ℕ) → bad_line n ls ≡ None → are_allowed ls ≡ true
none-bad [] n e = refl
none-bad (l ∷ ls) n e =
    let c = if-none (list_all is_allowed l) (bad_line (n + 1) ls) n e in
    ap (λ (b : Bool). b && are_allowed ls) c.0 ∙ none-bad ls (n + 1) c.1

all-allowed : (ls : List (List ℕ)) (n : ℕ) → are_allowed ls ≡ true → bad_line n ls ≡ None
all-allowed [] n e = refl
all-allowed (l ∷ ls) n e =
    ap (λ (b : Bool). if b then bad_line (n + 1) ls else Some n) (and-left _ (are_allowed ls) e)
    ∙ all-allowed ls (n + 1) (and-right (list_all is_allowed l) _ e)

-- the text of lines
pub text-read : (ls : List (List ℕ)) (w : Seen) → list_all is_line ls ≡ true → are_allowed ls ≡ true → are_found (declared ls) ls ≡ true
    → see_lines None ls ≡ Ok (Some w) → w.inside ≡ None → length (joined ls) ≤ 1048576
    → IsAJobs (joined ls)
text-read ls w h a f e c short =
    let back : lines_of (joined ls) ≡ ls = (joined_lines ls h).0 in
    let clean : bad_byte_line 1 (joined ls) ≡ None = by-lines (joined ls) 1 ∙ ap (bad_line 1) back ∙ all-allowed ls 1 a in
    let r = whole-read (declared ls) ls 1 None w refl f e c in
    let all : job_in (joined ls) ≡ Ok r.0 =
    short-read (joined ls) short
    ∙ ap (λ (o : Option ℕ). unless_bad o (read_from (declared (lines_of (joined ls))) 1 (lines_of (joined ls)))) clean
    ∙ ap (λ (x : List (List ℕ)). read_from (declared x) 1 x) back
    ∙ r.1 in
    (r.0, (texts-are-read (joined ls) r.0).0 all)
