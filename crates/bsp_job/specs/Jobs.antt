-- What a caller gets for a job's text (own; the numbers of the statuses are those of the program).
use Rattle.std.specs.Prelude.{◌≡◌, ◌≢◌, ◌⊎◌, ℕ, ℤ, pos, List, [], ◌∷◌, map, length, Some, Result, Ok, Err}
use Rattle.phase_records.specs.Status.{Status, Ended, Fault, Limit}
use Rattle.phase_records.specs.ReportValue.{ReportValue}
use Rattle.phase_records.specs.ReportText.{report_text}
use Rattle.task_lang.specs.Meaning.{Plan}
use Rattle.text_lines.specs.Refusals.{code_number}
use Rattle.text_lines.specs.declared.refusal.Refusal.{Refusal}
use Rattle.job_reader.specs.Trees.{BodyTree, JobTree}
use Rattle.job_reader.specs.Reading.{job_in}
use Rattle.job_reader.specs.Begins.{BeginsWell}
use Rattle.job_reader.specs.Grammar.{canonical_text}
use Rattle.job_reader.specs.Upgrade.{upgraded_tree}
use Rattle.step_core.specs.Program.{Program}
use Rattle.step_core.specs.JobMeaning.{report_of}
use Rattle.bsp_job.specs.declared.Reported.{Reported}
use Rattle.bsp_job.specs.Given.{IsGiven}

-- the status of a job that ended so: a fault is 2, the limit is 3
abbrev pub status_number : Status → ℤ
status_number (Ended steps) = pos 0
status_number (Fault code step path) = pos 2
status_number (Limit steps) = pos 3

-- 0 if it ended, 2 if a task faulted, 3 if the limit was reached, written down
pub record StatusesAreNumbered : Type 0 where
  pub ended : status_number (Ended 7) ≡ pos 0
  pub faulted : status_number (Fault 1 7 (0 ∷ [])) ≡ pos 2
  pub limited : status_number (Limit 7) ≡ pos 3

-- a body and a job as supersteps read them
abbrev pub plan_of : BodyTree → Plan
plan_of b = record { ahead = b.block; locals = length b.locals }

abbrev pub program_of_tree : JobTree → Program
program_of_tree j = record { arrays = j.arrays; plans = map plan_of j.bodies; starts = j.starts }

-- What a status says nothing of is 0: only a given or a too short text has a length, and only a refusal a line and a code.
pub record IsQuiet (status : ℤ) (reported : Reported) : Type 0 where
  pub length : (status ≡ pos 4) ⊎ ((status ≡ pos 5) ⊎ (status ≡ pos 6)) → reported.bytes ≡ 0
  pub refusal : status ≢ pos 4 → (reported.line ≡ 0) × (reported.code ≡ 0)

-- nothing was given yet
pub record IsNothing (reported : Reported) : Type 0 where
  pub bytes : reported.bytes ≡ 0
  pub line : reported.line ≡ 0
  pub code : reported.code ≡ 0

-- status 4, the fault for which the text is refused, and its place
pub record IsRefusedAs (refusal : Refusal) (status : ℤ) (reported : Reported) : Type 0 where
  pub four : status ≡ pos 4
  pub line : reported.line ≡ refusal.line
  pub code : reported.code ≡ code_number refusal.code

-- what a check gives for a text that is read so: its canonical text, or its first refusal
abbrev pub TellsCheck : Result JobTree Refusal → List ℕ → ℤ → Reported → Type 0
TellsCheck (Ok job) out status reported = IsGiven (canonical_text job) out (pos 0) status reported.bytes
TellsCheck (Err refusal) out status reported = IsRefusedAs refusal status reported

-- what an upgrade gives for it: the canonical text of that job in format 2, or its first refusal
abbrev pub TellsUpgrade : Result JobTree Refusal → List ℕ → ℤ → Reported → Type 0
TellsUpgrade (Ok job) out status reported = IsGiven (canonical_text (upgraded_tree job)) out (pos 0) status reported.bytes
TellsUpgrade (Err refusal) out status reported = IsRefusedAs refusal status reported

-- what a job leaves within a limit was given as text, and the status says how it ended
pub record GivesReport (job : JobTree) (limit : ℕ) (out : List ℕ) (status : ℤ) (reported : Reported) : Type 0 where
  pub report : ReportValue
  pub leaves : report_of (program_of_tree job) limit ≡ Some report
  pub given : IsGiven (report_text report) out (status_number report.status) status reported.bytes

-- what a run gives for it: the text of what the job leaves within the limit, or its first refusal
abbrev pub TellsRun : ℕ → Result JobTree Refusal → List ℕ → ℤ → Reported → Type 0
TellsRun limit (Ok job) out status reported = GivesReport job limit out status reported
TellsRun limit (Err refusal) out status reported = IsRefusedAs refusal status reported

-- the text is a job's
abbrev pub IsJob : List ℕ → Type 0
IsJob text = (job : JobTree) × (job_in text ≡ Ok job)

-- Status 6 is for a text that could not be refused before memory ran out: it begins well, or is a job's.
abbrev pub RunsOut : List ℕ → ℤ → Type 0
RunsOut text status = status ≡ pos 6 → BeginsWell text ⊎ IsJob text

-- Unless there was no memory, which is status 6, a check, an upgrade and a run give that for the text.
abbrev pub Checks : List ℕ → List ℕ → ℤ → Reported → Type 0
Checks text out status reported = (status ≡ pos 6) ⊎ TellsCheck (job_in text) out status reported

abbrev pub Upgrades : List ℕ → List ℕ → ℤ → Reported → Type 0
Upgrades text out status reported = (status ≡ pos 6) ⊎ TellsUpgrade (job_in text) out status reported

abbrev pub Runs : ℕ → List ℕ → List ℕ → ℤ → Reported → Type 0
Runs limit text out status reported = (status ≡ pos 6) ⊎ TellsRun limit (job_in text) out status reported
