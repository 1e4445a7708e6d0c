-- What is read is a text of a job, and each text of a job is read.
use Rattle.std.proofs.Common.{◌≡◌, ◌⊎◌, inl, inr, ℕ, ◌≤◌, Bool, true, false, List, length, Option, Some, None, Result, Ok, Err, refl, sym, ap, ◌∙◌, arith}
use Rattle.std.specs.Prelude.{if◌then◌else◌, nat_lt}
use Rattle.std.proofs.lemmas.Grind.{common_steps}
use Rattle.text_lines.specs.declared.refusal.Code.TheVariants.{TooLong}
use Rattle.text_lines.specs.declared.refusal.Refusal.{Refusal}
use Rattle.text_lines.specs.Text.{lines_of, bad_byte_line}
use Rattle.job_reader.specs.Trees.{JobTree}
use Rattle.job_reader.specs.Grammar.{canonical_text}
use Rattle.job_reader.specs.Laws.{IsRefused}
use Rattle.job_reader.specs.Reading.{refused, declared, read_from, unless_bad, job_in}
use Rattle.job_reader.proofs.SpelledWhole.{text-spelled-out}
use Rattle.text_laws.proofs.CanonicalJob.{canonical-text}
use Rattle.text_laws.proofs.ReadJobs.{read-jobs}
use Rattle.text_laws.specs.Laws.{IsTextOfJob, IsAJobs, TextsAreReadAsTheirJobs, EachTextIsOneJobsOrRefused, CanonicalTextsAreRead, WritingTwiceIsWritingOnce}
use Rattle.text_laws.proofs.Whole.{text-of-job-read}

unless-clean : (o : Option ℕ) (r : Result JobTree Refusal) (j : JobTree) → unless_bad o r ≡ Ok j → o ≡ None
unless-clean None r j e = refl
unless-clean (Some n) r j e = absurd cc

not-long : (b : Bool) (o : Option ℕ) (r : Result JobTree Refusal) (j : JobTree) → (if b then refused 1 TooLong else unless_bad o r) ≡ Ok j
    → (b ≡ false) × (o ≡ None)
not-long true o r j e = absurd cc
not-long false o r j e = (refl, unless-clean o r j e)

not-over : (n : ℕ) → nat_lt 1048576 n ≡ false → n ≤ 1048576
not-over n e = grind (arith, common_steps)

-- what is read is a text of that job
pub read-text : (text : List ℕ) (j : JobTree) → job_in text ≡ Ok j → IsTextOfJob j text
unfolding job_in
read-text text j e =
    let allowed =
    not-long (nat_lt 1048576 (length text)) (bad_byte_line 1 text) (read_from (declared (lines_of text)) 1 (lines_of text)) j e in
    record { short = not-over (length text) allowed.0; clean = allowed.1; job = read-jobs text j e; written = text-spelled-out text j e }

pub texts-are-read : TextsAreReadAsTheirJobs
texts-are-read text j = (read-text text j, text-of-job-read text j)

judged : (text : List ℕ) (r : Result JobTree Refusal) → job_in text ≡ r → IsAJobs text ⊎ IsRefused text
judged text (Ok j) e = inl (j, read-text text j e)
judged text (Err c) e = inr (c, e)

never-both : (text : List ℕ) → IsAJobs text → IsRefused text → ⊥
never-both text a b = let same : ◌≡◌ {A = Result JobTree Refusal} (Ok a.0) (Err b.0) = sym (text-of-job-read text a.0 a.1) ∙ b.1 in cc

pub each-text : EachTextIsOneJobsOrRefused
each-text = λ text. (judged text (job_in text) refl, λ a b. never-both text a b)

pub canonical-read : CanonicalTextsAreRead
canonical-read j job short =
    let written = canonical-text j job in
    text-of-job-read (canonical_text j) j (record { short = short; clean = written.0; job = job; written = written.1 })

pub twice-once : WritingTwiceIsWritingOnce
twice-once text j k e f =
    let again : IsTextOfJob k (canonical_text j) = read-text (canonical_text j) k f in
    let read : job_in (canonical_text j) ≡ Ok j = canonical-read j (read-jobs text j e) again.short in
    let both : ◌≡◌ {A = Result JobTree Refusal} (Ok k) (Ok j) = sym f ∙ read in
    let same : k ≡ j = cc in
    (same, ap canonical_text same)
