-- What is read, in the words of the grammar.
use Rattle.std.specs.Prelude.{◌≡◌, ◌⊎◌, ℕ, List, Ok, Err}
use Rattle.text_lines.specs.declared.refusal.Refusal.{Refusal}
use Rattle.text_lines.specs.Text.{lines_of}
use Rattle.job_reader.specs.Trees.{JobTree}
use Rattle.job_reader.specs.Grammar.{kept, IsTextOf}
use Rattle.job_reader.specs.Reading.{job_in}

-- A text that isn't refused is, by the grammar, the text of the job that it is read as.
abbrev pub ReadTextsAreJobs : Type 0
ReadTextsAreJobs = (text : List ℕ) (j : JobTree) → job_in text ≡ Ok j → IsTextOf j (kept (lines_of text))

-- a text is read as a job, whose text it is by the grammar
abbrev pub IsRead : List ℕ → Type 0
IsRead text = (j : JobTree) × (job_in text ≡ Ok j) × IsTextOf j (kept (lines_of text))

-- a text has a first refusal
abbrev pub IsRefused : List ℕ → Type 0
IsRefused text = (r : Refusal) × (job_in text ≡ Err r)

-- Of each text exactly one holds: it is read, or it is refused.
abbrev pub EachTextIsReadOrRefused : Type 0
EachTextIsReadOrRefused = (text : List ℕ) → (IsRead text ⊎ IsRefused text) × (IsRead text → IsRefused text → ⊥)
