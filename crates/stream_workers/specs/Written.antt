-- What workers write of a job, superstep by superstep (own).
use Rattle.std.specs.Prelude.{◌≡◌, ◌<◌, ℕ, List, Option, Some, None, Result, Ok, Err}
use Rattle.std.specs.Io.KnownBytes.{Appends, Keeps}
use Rattle.phase_records.specs.declared.record.JobStatus.{JobStatus}
use Rattle.step_core.specs.Program.{Program}
use Rattle.job_stream.specs.Streamed.{lines_of, Streams, StreamCause}
use Rattle.job_stream.specs.declared.fault.StreamFault.{StreamFault}
use Rattle.stream_workers.specs.declared.fault.WorkersStreamFault.{WorkersStreamFault}
use Rattle.stream_workers.specs.declared.fault.WorkersStreamFault.TheVariants.{Fault, NotStarted}

-- as on one thread; if a worker couldn't be started, one of so many, nothing was written
abbrev pub StreamsOn : ℕ → Program → ℕ → Option (List ℕ) → Option (List ℕ) → Result JobStatus WorkersStreamFault → Type 0
StreamsOn workers p limit old new (Ok status) = Streams p limit old new (Ok status)
StreamsOn workers p limit old new (Err (Fault fault)) = Streams p limit old new (Err fault)
StreamsOn workers p limit old new (Err (NotStarted k)) = Keeps old new × (k < workers)

-- the count of failures rises if the device is blamed, and else stays
abbrev pub CauseOn : ℕ → ℕ → Result JobStatus WorkersStreamFault → Type 0
CauseOn old new (Err (Fault fault)) = StreamCause {T = JobStatus} old new (Err fault)
CauseOn old new _ = new ≡ old

-- what a writer holds so far: the lines of the first `written` supersteps, if nothing has failed; and how often it has failed
abbrev pub HasWritten : Program → ℕ → Option (List ℕ) → ℕ → Option (List ℕ) → ℕ → ℕ → Option StreamFault → Type 0
HasWritten p limit old before new after written None = Appends old new (lines_of p limit written) × (after ≡ before)
HasWritten p limit old before new after written (Some fault) =
    Streams p limit old new (Err fault) × StreamCause {T = JobStatus} before after (Err fault)
