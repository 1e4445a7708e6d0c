-- The canonical text of a job, and the jobs that are read.
use Rattle.std.specs.Prelude.{◌≡◌, ℕ, List, None, Ok}
use Rattle.text_lines.specs.Text.{lines_of, bad_byte_line}
use Rattle.job_reader.specs.Trees.{JobTree}
use Rattle.job_reader.specs.Grammar.{kept, IsTextOf, canonical_text}
use Rattle.job_reader.specs.Legal.{IsJobTree}
use Rattle.job_reader.specs.Reading.{job_in}

-- The canonical text of a job has no byte that isn't allowed, and is by the grammar a text of that job.
abbrev pub CanonicalTextsAreTexts : Type 0
CanonicalTextsAreTexts =
    (j : JobTree) → IsJobTree j → (bad_byte_line 1 (canonical_text j) ≡ None) × IsTextOf j (kept (lines_of (canonical_text j)))

-- What a text is read as is a job: it keeps all limits, and what its lines name exists.
abbrev pub ReadJobsAreJobs : Type 0
ReadJobsAreJobs = (text : List ℕ) (j : JobTree) → job_in text ≡ Ok j → IsJobTree j
