-- Which texts are a job's, and that they are read as it.
use Rattle.std.specs.Prelude.{◌≡◌, ◌≤◌, ◌↔◌, ◌⊎◌, ℕ, List, length, None, Ok}
use Rattle.text_lines.specs.Limits.{most_bytes}
use Rattle.text_lines.specs.Text.{lines_of, bad_byte_line}
use Rattle.job_reader.specs.Trees.{JobTree}
use Rattle.job_reader.specs.Grammar.{kept, canonical_text, IsTextOf}
use Rattle.job_reader.specs.Laws.{IsRefused}
use Rattle.job_reader.specs.Legal.{IsJobTree}
use Rattle.job_reader.specs.Reading.{job_in}

-- A text of a job is short, each of its bytes is allowed, and its lines that aren't skipped are the job's as they are written.
pub record IsTextOfJob (j : JobTree) (text : List ℕ) : Type 0 where
  pub short : length text ≤ most_bytes
  pub clean : bad_byte_line 1 text ≡ None
  pub job : IsJobTree j
  pub written : IsTextOf j (kept (lines_of text))

-- each text of a job is read as that job
abbrev pub TextsOfJobsAreRead : Type 0
TextsOfJobsAreRead = (text : List ℕ) (j : JobTree) → IsTextOfJob j text → job_in text ≡ Ok j

-- no text is of two jobs
abbrev pub OneJobAText : Type 0
OneJobAText = (text : List ℕ) (j k : JobTree) → IsTextOfJob j text → IsTextOfJob k text → j ≡ k

-- A text is read as a job exactly if it is a text of that job.
abbrev pub TextsAreReadAsTheirJobs : Type 0
TextsAreReadAsTheirJobs = (text : List ℕ) (j : JobTree) → (job_in text ≡ Ok j) ↔ IsTextOfJob j text

-- there is a job that has this text
abbrev pub IsAJobs : List ℕ → Type 0
IsAJobs text = (j : JobTree) × IsTextOfJob j text

-- Of each text exactly one holds: it is a job's, or it is refused.
abbrev pub EachTextIsOneJobsOrRefused : Type 0
EachTextIsOneJobsOrRefused = (text : List ℕ) → (IsAJobs text ⊎ IsRefused text) × (IsAJobs text → IsRefused text → ⊥)

-- The canonical text of a job is read as that job, if it is short.
abbrev pub CanonicalTextsAreRead : Type 0
CanonicalTextsAreRead = (j : JobTree) → IsJobTree j → length (canonical_text j) ≤ most_bytes → job_in (canonical_text j) ≡ Ok j

-- What the canonical text of a read job is read as is that job, and has that same canonical text.
abbrev pub WritingTwiceIsWritingOnce : Type 0
WritingTwiceIsWritingOnce =
    (text : List ℕ) (j k : JobTree) → job_in text ≡ Ok j → job_in (canonical_text j) ≡ Ok k
    → (k ≡ j) × (canonical_text k ≡ canonical_text j)
