-- How commands end, by what they return.
use Rattle.std.specs.Prelude.{◌≡◌, ◌≤◌, ◌<◌, ◌⊎◌, ℕ, ◌+◌, List, Option, IfSome, Result, Ok, Err}
use Rattle.std.specs.Io.KnownBytes.{Appends, Keeps}
use Rattle.phase_records.specs.Device.{AppendsBeginning}
use Rattle.phase_records.specs.ReportValue.{ReportValue}
use Rattle.phase_records.specs.ReportText.{report_text}
use Rattle.phase_records.specs.StatusSeen.{status_seen}
use Rattle.phase_records.specs.declared.record.JobStatus.{JobStatus}
use Rattle.task_code.specs.JobValue.{JobValue}
use Rattle.trace_text.specs.Trace.{asked_of}
use Rattle.trace_text.specs.Outcome.{WritesAnswers, WritesBeginning}
use Rattle.job_reader.specs.Trees.{job_tree}
use Rattle.job_reader.specs.Reading.{job_in}
use Rattle.refusal_reasons.specs.Listing.{listing}
use Rattle.job_view.specs.Look.{LookValue}
use Rattle.text_lines.specs.declared.refusal.Refusal.{Refusal}
use Rattle.bsp_cli.specs.Jobs.{status_number, WritesCanonical, BeginsCanonical, BeginsListing, WritesUpgraded, BeginsUpgraded, WritesReportOf, BeginsReport}
use Rattle.bsp_cli.specs.Drawn.{drawn_in}
use Rattle.step_core.specs.Program.{Program}
use Rattle.job_stream.specs.Streamed.{Streams}
use Rattle.job_stream.specs.declared.fault.StreamFault.TheVariants as stream
use Rattle.bsp_cli.specs.Did.{Finishes, Begins, Lists, Refuses, RunsOut, StopsShort, IsWorkerOf}
use Rattle.bsp_cli.specs.Texts.{fault_status}
use Rattle.bsp_cli.specs.Explained.{WritesTopic, BeginsTopic}
use Rattle.bsp_words.specs.declared.asked.Topic.{Topic}
use Rattle.bsp_words.specs.declared.asked.Asked.{Asked}
use Rattle.bsp_words.specs.declared.asked.Asked.TheVariants.{RunStream}
use Rattle.bsp_cli.specs.declared.fault.RunFault.{RunFault}
use Rattle.bsp_cli.specs.declared.fault.RunFault.TheVariants.{Text, Read, Write, Memory, NotStarted, Internal}

-- the writer failed once if the fault is Write, and else not at all
abbrev pub WriteCause : {T : Type 0} → ℕ → ℕ → Result T RunFault → Type 0
WriteCause old new (Err Write) = new ≡ old + 1
WriteCause old new _ = new ≡ old

-- the reader failed once if the fault is Read, and else not at all
abbrev pub ReadCause : {T : Type 0} → ℕ → ℕ → Result T RunFault → Type 0
ReadCause old new (Err Read) = new ≡ old + 1
ReadCause old new _ = new ≡ old

abbrev pub Traces : Option (List ℕ) → Option (List ℕ) → Option (List ℕ) → Result (Unit {0}) RunFault → Type 0
Traces input old new (Ok x) = IfSome input (λ bytes. WritesAnswers bytes old new)
Traces input old new (Err (Text r)) = IfSome input (λ bytes. asked_of bytes ≡ Err r) × Keeps old new
Traces input old new (Err Read) = Keeps old new
Traces input old new (Err Write) = IfSome input (λ bytes. WritesBeginning bytes old new)
Traces input old new (Err Memory) = Keeps old new ⊎ IfSome input (λ bytes. WritesBeginning bytes old new)
Traces input old new _ = ⊥

-- the input is the text of the job, or is refused
abbrev pub TakesJob : Option (List ℕ) → Result JobValue RunFault → Type 0
TakesJob input (Ok job) = IfSome input (λ bytes. job_in bytes ≡ Ok (job_tree job))
TakesJob input (Err (Text r)) = IfSome input (λ bytes. job_in bytes ≡ Err r)
TakesJob input (Err Read) = Unit {0}
TakesJob input (Err Memory) = Unit {0}
TakesJob input _ = ⊥

abbrev pub Checks : Option (List ℕ) → Option (List ℕ) → Option (List ℕ) → Result (Unit {0}) RunFault → Type 0
Checks input old new (Ok x) = IfSome input (λ bytes. WritesCanonical bytes old new)
Checks input old new (Err (Text r)) = IfSome input (λ bytes. job_in bytes ≡ Err r) × Keeps old new
Checks input old new (Err Read) = Keeps old new
Checks input old new (Err Write) = IfSome input (λ bytes. BeginsCanonical bytes old new)
Checks input old new (Err Memory) = Keeps old new
Checks input old new _ = ⊥

-- a text was written, or a beginning of it if the writer failed
abbrev pub Writes : List ℕ → Option (List ℕ) → Option (List ℕ) → Result (Unit {0}) RunFault → Type 0
Writes text old new (Ok x) = Appends old new text
Writes text old new (Err Write) = AppendsBeginning old new text
Writes text old new (Err Memory) = Keeps old new
Writes text old new _ = ⊥

-- the lines of a refused text were written, or a beginning of them if the writer failed
abbrev pub ListsFaults : List ℕ → Refusal → Option (List ℕ) → Option (List ℕ) → Result (Unit {0}) RunFault → Type 0
ListsFaults lines r old new (Err (Text q)) = (q ≡ r) × Appends old new lines
ListsFaults lines r old new (Err Write) = AppendsBeginning old new lines
ListsFaults lines r old new (Err Memory) = Keeps old new
ListsFaults lines r old new _ = ⊥

-- a text's canonical text was written, or its faulty lines; or a beginning of them
abbrev pub ChecksText : List ℕ → Option (List ℕ) → Option (List ℕ) → Result (Unit {0}) RunFault → Type 0
ChecksText text old new (Ok x) = WritesCanonical text old new
ChecksText text old new (Err (Text r)) = (job_in text ≡ Err r) × Appends old new (listing text)
ChecksText text old new (Err Write) = BeginsCanonical text old new ⊎ BeginsListing text old new
ChecksText text old new (Err Memory) = Keeps old new
ChecksText text old new _ = ⊥

abbrev pub ChecksAll : Option (List ℕ) → Option (List ℕ) → Option (List ℕ) → Result (Unit {0}) RunFault → Type 0
ChecksAll input old new (Ok x) = IfSome input (λ bytes. WritesCanonical bytes old new)
ChecksAll input old new (Err (Text r)) =
    IfSome input (λ bytes. job_in bytes ≡ Err r) × IfSome input (λ bytes. Appends old new (listing bytes))
ChecksAll input old new (Err Read) = Keeps old new
ChecksAll input old new (Err Write) = IfSome input (λ bytes. BeginsCanonical bytes old new ⊎ BeginsListing bytes old new)
ChecksAll input old new (Err Memory) = Keeps old new
ChecksAll input old new _ = ⊥

abbrev pub Upgrades : Option (List ℕ) → Option (List ℕ) → Option (List ℕ) → Result (Unit {0}) RunFault → Type 0
Upgrades input old new (Ok x) = IfSome input (λ bytes. WritesUpgraded bytes old new)
Upgrades input old new (Err (Text r)) = IfSome input (λ bytes. job_in bytes ≡ Err r) × Keeps old new
Upgrades input old new (Err Read) = Keeps old new
Upgrades input old new (Err Write) = IfSome input (λ bytes. BeginsUpgraded bytes old new)
Upgrades input old new (Err Memory) = Keeps old new
Upgrades input old new _ = ⊥

-- a text on the topic was written, or a beginning of it
abbrev pub Explains : Topic → Option (List ℕ) → Option (List ℕ) → Result (Unit {0}) RunFault → Type 0
Explains topic old new (Ok x) = WritesTopic topic old new
Explains topic old new (Err Write) = BeginsTopic topic old new
Explains topic old new _ = ⊥

-- the report was written in this form, or a beginning of it if the writer failed
abbrev pub Reports : (ReportValue → List ℕ) → ReportValue → Option (List ℕ) → Option (List ℕ) → Result JobStatus RunFault → Type 0
Reports form report old new (Ok status) = Appends old new (form report) × (status_seen status ≡ report.status)
Reports form report old new (Err Write) = AppendsBeginning old new (form report)
Reports form report old new (Err Memory) = Keeps old new
Reports form report old new _ = ⊥

-- why a run on this number of workers leaves no report
abbrev pub IsOfPool : ℕ → RunFault → Type 0
IsOfPool workers Memory = Unit {0}
IsOfPool workers (NotStarted k) = k < workers
IsOfPool workers Internal = Unit {0}
IsOfPool workers _ = ⊥

-- what the job of the input leaves within the limit was written in this form, and nothing else, and this is how it ended; a text that is
-- refused is refused at its first fault, with nothing written
abbrev pub Runs : (ReportValue → List ℕ) → ℕ → ℕ → Option (List ℕ) → Option (List ℕ) → Option (List ℕ) → Result JobStatus RunFault → Type 0
Runs form workers limit input old new (Ok status) = IfSome input (λ bytes. WritesReportOf form limit bytes old new (status_seen status))
Runs form workers limit input old new (Err (Text r)) = IfSome input (λ bytes. job_in bytes ≡ Err r) × Keeps old new
Runs form workers limit input old new (Err Write) = IfSome input (λ bytes. BeginsReport form limit bytes old new)
Runs form workers limit input old new (Err (NotStarted k)) = Keeps old new × (k < workers)
Runs form workers limit input old new _ = Keeps old new

-- a job's report was written superstep by superstep, as far as it came
abbrev pub StreamsJob : ℕ → Program → ℕ → Option (List ℕ) → Option (List ℕ) → Result JobStatus RunFault → Type 0
StreamsJob workers p limit old new (Ok status) = Streams p limit old new (Ok status)
StreamsJob workers p limit old new (Err Write) = Streams p limit old new (Err stream.Write)
StreamsJob workers p limit old new (Err Memory) = Streams p limit old new (Err stream.Memory)
StreamsJob workers p limit old new (Err Internal) = Streams p limit old new (Err stream.Internal)
StreamsJob workers p limit old new (Err (NotStarted k)) = Keeps old new × (k < workers)
StreamsJob workers p limit old new _ = ⊥

-- the same of the job of the input, as a run of it
abbrev pub RunsStream : ℕ → ℕ → Option (List ℕ) → Option (List ℕ) → Option (List ℕ) → Result JobStatus RunFault → Type 0
RunsStream workers limit input old new (Err Memory) = StopsShort (RunStream workers limit) input old new
RunsStream workers limit input old new (Err Internal) = StopsShort (RunStream workers limit) input old new
RunsStream workers limit input old new r = Runs report_text workers limit input old new r

-- the same of its picture, as it is asked for
abbrev pub Draws : LookValue → ℕ → ℕ → Option (List ℕ) → Option (List ℕ) → Option (List ℕ) → Result JobStatus RunFault → Type 0
Draws look workers limit input old new (Ok status) =
    IfSome input (λ bytes. WritesReportOf (drawn_in look limit bytes) limit bytes old new (status_seen status))
Draws look workers limit input old new (Err (Text r)) = IfSome input (λ bytes. job_in bytes ≡ Err r) × Keeps old new
Draws look workers limit input old new (Err Write) = IfSome input (λ bytes. BeginsReport (drawn_in look limit bytes) limit bytes old new)
Draws look workers limit input old new (Err (NotStarted k)) = Keeps old new × (k < workers)
Draws look workers limit input old new _ = Keeps old new

-- what is asked for was done, whichever it is
abbrev pub Does : Asked → LookValue → Option (List ℕ) → Option (List ℕ) → Option (List ℕ) → Result ℕ RunFault → Type 0
Does a look input old new (Ok status) = (status ≤ 3) × IfSome input (λ bytes. Finishes a look bytes old new status)
Does a look input old new (Err (Text r)) = IfSome input (λ bytes. Refuses a bytes r) × Lists a input old new
Does a look input old new (Err Write) = IfSome input (λ bytes. Begins a look bytes old new)
Does a look input old new (Err Memory) = RunsOut a input old new
Does a look input old new (Err (NotStarted k)) = Keeps old new × IsWorkerOf a k
Does a look input old new (Err Internal) = StopsShort a input old new
Does a look input old new _ = Keeps old new

-- how a run of a job ended, as a status
abbrev pub end_result : Result JobStatus RunFault → Result ℕ RunFault
end_result (Ok status) = Ok (status_number (status_seen status))
end_result (Err fault) = Err fault

-- the status that ends the program
abbrev pub end_status : Result ℕ RunFault → ℕ
end_status (Ok status) = status
end_status (Err fault) = fault_status fault
