-- What a run of a job writes superstep by superstep (own).
use Rattle.std.specs.Prelude.{◌≡◌, ◌≤◌, ◌+◌, ℕ, List, ◌++◌, Option, Some, Result, Ok, Err}
use Rattle.std.specs.Io.KnownBytes.{Appends, Keeps}
use Rattle.phase_records.specs.Device.{AppendsBeginning}
use Rattle.phase_records.specs.ReportValue.{ReportValue}
use Rattle.phase_records.specs.ReportText.{steps_text, report_text}
use Rattle.phase_records.specs.StatusSeen.{status_seen}
use Rattle.phase_records.specs.declared.record.JobStatus.{JobStatus}
use Rattle.step_core.specs.Program.{Program}
use Rattle.step_core.specs.JobMeaning.{so_far, report_of}
use Rattle.program_stretches.specs.LinesValue.{LinesValue}
use Rattle.job_stream.specs.declared.fault.StreamFault.{StreamFault}
use Rattle.job_stream.specs.declared.fault.StreamFault.TheVariants.{Write, Memory, Internal}

-- the lines of the first `n` supersteps that a job takes within a limit
abbrev pub lines_of : Program → ℕ → ℕ → List ℕ
lines_of p limit n = steps_text (so_far p limit n).prints (so_far p limit n).records

-- the lines of some first supersteps were written, and nothing else
abbrev pub WritesSteps : Program → ℕ → Option (List ℕ) → Option (List ℕ) → Type 0
WritesSteps p limit old new = (n : ℕ) × Appends old new (lines_of p limit n)

-- a beginning of what the job leaves was written
abbrev pub BeginsReport : Program → ℕ → Option (List ℕ) → Option (List ℕ) → Type 0
BeginsReport p limit old new = (report : ReportValue) × (report_of p limit ≡ Some report) × AppendsBeginning old new (report_text report)

-- the whole text of what the job leaves; if the device failed, a beginning of it; else whole supersteps
abbrev pub Streams : Program → ℕ → Option (List ℕ) → Option (List ℕ) → Result JobStatus StreamFault → Type 0
Streams p limit old new (Ok status) =
    (report : ReportValue) × (report_of p limit ≡ Some report) × Appends old new (report_text report) × (status_seen status ≡ report.status)
Streams p limit old new (Err Write) = BeginsReport p limit old new
Streams p limit old new (Err Memory) = WritesSteps p limit old new
Streams p limit old new (Err Internal) = WritesSteps p limit old new

-- the same of a call that comes when the lines of `n` supersteps are written
abbrev pub Ends : Program → ℕ → ℕ → Option (List ℕ) → Option (List ℕ) → Result JobStatus StreamFault → Type 0
Ends p limit n old new (Ok status) =
    (report : ReportValue) × (report_of p limit ≡ Some report)
    × ((rest : List ℕ) × (report_text report ≡ lines_of p limit n ++ rest) × Appends old new rest) × (status_seen status ≡ report.status)
Ends p limit n old new (Err Write) =
    (report : ReportValue) × (report_of p limit ≡ Some report)
    × ((rest : List ℕ) × (report_text report ≡ lines_of p limit n ++ rest) × AppendsBeginning old new rest)
Ends p limit n old new (Err Memory) = Keeps old new
Ends p limit n old new (Err Internal) = Keeps old new

-- and of one that writes the lines of further supersteps
abbrev pub Continues : Program → ℕ → ℕ → Option (List ℕ) → Option (List ℕ) → Result ℕ StreamFault → Type 0
Continues p limit n old new (Ok next) = (text : List ℕ) × (lines_of p limit next ≡ lines_of p limit n ++ text) × Appends old new text
Continues p limit n old new (Err Write) =
    (next : ℕ) × ((text : List ℕ) × (lines_of p limit next ≡ lines_of p limit n ++ text) × AppendsBeginning old new text)
Continues p limit n old new (Err Memory) = Keeps old new
Continues p limit n old new (Err Internal) = Keeps old new

-- this text was written, or a beginning of it, or nothing
abbrev pub WritesWhole : List ℕ → Option (List ℕ) → Option (List ℕ) → Result (Unit {0}) StreamFault → Type 0
WritesWhole text old new (Ok x) = Appends old new text
WritesWhole text old new (Err Write) = AppendsBeginning old new text
WritesWhole text old new (Err Memory) = Keeps old new
WritesWhole text old new (Err Internal) = Keeps old new

-- the text of this report was written, and this is how it ended
abbrev pub Closes : ReportValue → Option (List ℕ) → Option (List ℕ) → Result JobStatus StreamFault → Type 0
Closes report old new (Ok status) = Appends old new (report_text report) × (status_seen status ≡ report.status)
Closes report old new (Err Write) = AppendsBeginning old new (report_text report)
Closes report old new (Err Memory) = Keeps old new
Closes report old new (Err Internal) = Keeps old new

-- the count of failures rises if the device is blamed, and else stays
abbrev pub StreamCause : {T : Type 0} → ℕ → ℕ → Result T StreamFault → Type 0
StreamCause old new (Ok x) = new ≡ old
StreamCause old new (Err Write) = new ≡ old + 1
StreamCause old new (Err Memory) = new ≡ old
StreamCause old new (Err Internal) = new ≡ old

-- nothing was written
abbrev pub IsNoWrite : StreamFault → Type 0
IsNoWrite Write = ⊥
IsNoWrite Memory = Unit {0}
IsNoWrite Internal = Unit {0}

-- what supersteps of a job printed and recorded, of the one number and of those below the other
pub record IsPiece (p : Program) (limit : ℕ) (l : LinesValue) : Type 0 where
  pub order : l.first ≤ l.next
  pub prints : (so_far p limit l.next).prints ≡ (so_far p limit l.first).prints ++ l.prints
  pub records : (so_far p limit l.next).records ≡ (so_far p limit l.first).records ++ l.records

-- what a job leaves, but for what its first `n` supersteps printed and recorded
pub record IsRest (p : Program) (limit : ℕ) (n : ℕ) (rest : ReportValue) : Type 0 where
  pub whole : ReportValue
  pub report : report_of p limit ≡ Some whole
  pub prints : whole.prints ≡ (so_far p limit n).prints ++ rest.prints
  pub records : whole.records ≡ (so_far p limit n).records ++ rest.records
  pub arrays : whole.arrays ≡ rest.arrays
  pub status : whole.status ≡ rest.status
