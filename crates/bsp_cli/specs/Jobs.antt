-- What `check`, `upgrade`, `run` and `draw` print of a job's text (own).
use Rattle.std.specs.Prelude.{◌≡◌, ℕ, List, map, length, Option, Some, Ok, Err}
use Rattle.std.specs.Io.KnownBytes.{Appends}
use Rattle.phase_records.specs.Device.{AppendsBeginning}
use Rattle.phase_records.specs.Status.{Status, Ended, Fault, Limit}
use Rattle.phase_records.specs.ReportValue.{ReportValue}
use Rattle.task_lang.specs.Meaning.{Plan}
use Rattle.job_reader.specs.Trees.{BodyTree, JobTree}
use Rattle.job_reader.specs.Reading.{job_in}
use Rattle.job_reader.specs.Grammar.{canonical_text}
use Rattle.job_reader.specs.Upgrade.{upgraded_tree}
use Rattle.step_core.specs.Program.{Program}
use Rattle.text_lines.specs.declared.refusal.Refusal.{Refusal}
use Rattle.refusal_reasons.specs.Listing.{listing}
use Rattle.step_core.specs.JobMeaning.{report_of}
use Rattle.job_stream.specs.Streamed as stream

-- the status of a job that ended so: a fault is 2, the limit is 3
abbrev pub status_number : Status → ℕ
status_number (Ended steps) = 0
status_number (Fault code step path) = 2
status_number (Limit steps) = 3

-- a body and a job as supersteps read them
abbrev pub plan_of : BodyTree → Plan
plan_of b = record { ahead = b.block; locals = length b.locals }

abbrev pub program_of_tree : JobTree → Program
program_of_tree j = record { arrays = j.arrays; plans = map plan_of j.bodies; starts = j.starts }

-- the input is the text of a job, and its canonical text was written
abbrev pub WritesCanonical : List ℕ → Option (List ℕ) → Option (List ℕ) → Type 0
WritesCanonical input old new = (job : JobTree) × (job_in input ≡ Ok job) × Appends old new (canonical_text job)

-- or a beginning of it
abbrev pub BeginsCanonical : List ℕ → Option (List ℕ) → Option (List ℕ) → Type 0
BeginsCanonical input old new = (job : JobTree) × (job_in input ≡ Ok job) × AppendsBeginning old new (canonical_text job)

-- the input is refused, and a beginning of the list of its faulty lines was written
abbrev pub BeginsListing : List ℕ → Option (List ℕ) → Option (List ℕ) → Type 0
BeginsListing input old new = (r : Refusal) × (job_in input ≡ Err r) × AppendsBeginning old new (listing input)

-- the input is the text of a job, and its canonical text as a job of format 2 was written
abbrev pub WritesUpgraded : List ℕ → Option (List ℕ) → Option (List ℕ) → Type 0
WritesUpgraded input old new = (job : JobTree) × (job_in input ≡ Ok job) × Appends old new (canonical_text (upgraded_tree job))

-- or a beginning of it
abbrev pub BeginsUpgraded : List ℕ → Option (List ℕ) → Option (List ℕ) → Type 0
BeginsUpgraded input old new = (job : JobTree) × (job_in input ≡ Ok job) × AppendsBeginning old new (canonical_text (upgraded_tree job))

-- the input is the text of a job that leaves this report within the limit
abbrev pub Leaves : ℕ → List ℕ → ReportValue → Type 0
Leaves limit input report = (job : JobTree) × (job_in input ≡ Ok job) × (report_of (program_of_tree job) limit ≡ Some report)

-- what the job of the input leaves was written in this form, as a text or a picture, and this is how it ended
abbrev pub WritesReportOf : (ReportValue → List ℕ) → ℕ → List ℕ → Option (List ℕ) → Option (List ℕ) → Status → Type 0
WritesReportOf form limit input old new status =
    (report : ReportValue) × Leaves limit input report × Appends old new (form report) × (status ≡ report.status)

-- the same, with the number of the status
abbrev pub WritesReport : (ReportValue → List ℕ) → ℕ → List ℕ → Option (List ℕ) → Option (List ℕ) → ℕ → Type 0
WritesReport form limit input old new status =
    (report : ReportValue) × Leaves limit input report × Appends old new (form report) × (status ≡ status_number report.status)

-- or a beginning of it
abbrev pub BeginsReport : (ReportValue → List ℕ) → ℕ → List ℕ → Option (List ℕ) → Option (List ℕ) → Type 0
BeginsReport form limit input old new = (report : ReportValue) × Leaves limit input report × AppendsBeginning old new (form report)

-- the input is the text of a job, and the lines of some first supersteps of it were written, whole
abbrev pub WritesSteps : ℕ → List ℕ → Option (List ℕ) → Option (List ℕ) → Type 0
WritesSteps limit input old new = (job : JobTree) × (job_in input ≡ Ok job) × stream.WritesSteps (program_of_tree job) limit old new
