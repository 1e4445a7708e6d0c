-- What a job's run writes superstep by superstep.
use Rattle.std.proofs.Common.{◌≡◌, ℕ, inl, inr, List, Option, Some, Result, Ok, Err, sym, subst, ap}
use Rattle.std.specs.Prelude.{IfSome}
use Rattle.std.specs.Io.KnownBytes.{Appends, Keeps}
use Rattle.phase_records.proofs.PassedBytes.{Appends-none, Appends-kept}
use Rattle.phase_records.specs.ReportValue.{ReportValue}
use Rattle.phase_records.specs.ReportText.{report_text}
use Rattle.phase_records.specs.StatusSeen.{status_seen}
use Rattle.phase_records.specs.declared.record.JobStatus.{JobStatus}
use Rattle.task_code.specs.JobValue.{JobValue}
use Rattle.job_reader.specs.Trees.{job_tree}
use Rattle.job_reader.specs.Reading.{job_in}
use Rattle.job_view.specs.Look.{LookValue}
use Rattle.step_core.specs.Program.{Program, program_of}
use Rattle.step_core.specs.JobMeaning.{report_of}
use Rattle.job_stream.specs.Streamed as stream
use Rattle.bsp_cli.specs.Jobs.{program_of_tree, status_number}
use Rattle.bsp_cli.specs.Ends.{IsOfPool, Reports, RunsStream, StreamsJob, Does, end_result}
use Rattle.bsp_words.specs.declared.asked.Asked.TheVariants.{RunStream}
use Rattle.bsp_cli.specs.declared.fault.RunFault.{RunFault}
use Rattle.bsp_cli.specs.declared.fault.RunFault.TheVariants.{Text, Read, Write, Memory, NotStarted, Internal}
use Rattle.bsp_cli.proofs.RunJobs.{if-some, left, same-program, small}

-- nothing written is the lines of no superstep
pub none_written : (p : Program) (limit : ℕ) (old new : Option (List ℕ)) → Keeps old new → stream.WritesSteps p limit old new
none_written p limit old new h = (0, Appends-kept old old new _ (Appends-none old) h)

-- a report that was written whole
pub reports_stream : (workers limit : ℕ) (p : Program) (old new : Option (List ℕ)) (report : ReportValue) (r : Result JobStatus RunFault)
    → report_of p limit ≡ Some report
    → Reports report_text report old new r → StreamsJob workers p limit old new r
reports_stream workers limit p old new report (Ok status) e h = (report, e, h.0, h.1)
reports_stream workers limit p old new report (Err (Text x)) e h = absurd h
reports_stream workers limit p old new report (Err Read) e h = absurd h
reports_stream workers limit p old new report (Err Write) e h = (report, e, h)
reports_stream workers limit p old new report (Err Memory) e h = none_written p limit old new h
reports_stream workers limit p old new report (Err (NotStarted k)) e h = absurd h
reports_stream workers limit p old new report (Err Internal) e h = absurd h

-- the job of the input
pub runs_stream : (workers limit : ℕ) (input old new : Option (List ℕ)) (j : JobValue) (r : Result JobStatus RunFault)
    → IfSome input (λ bytes. job_in bytes ≡ Ok (job_tree j)) → StreamsJob workers (program_of j) limit old new r
    → RunsStream workers limit input old new r
runs_stream workers limit input old new j (Ok status) read h =
    if-some input (λ bytes e. (h.0, (job_tree j, e, left j limit h.0 h.1), h.2, h.3)) read
runs_stream workers limit input old new j (Err (Text x)) read h = absurd h
runs_stream workers limit input old new j (Err Read) read h = absurd h
runs_stream workers limit input old new j (Err Write) read h =
    if-some input (λ bytes e. (h.0, (job_tree j, e, left j limit h.0 h.1), h.2)) read
runs_stream workers limit input old new j (Err Memory) read h =
    inr
    (if-some input (λ bytes e. (job_tree j, e, subst (λ (p : Program). stream.WritesSteps p limit old new) (sym (same-program j)) h)) read)
runs_stream workers limit input old new j (Err (NotStarted k)) read h = h
runs_stream workers limit input old new j (Err Internal) read h =
    inr
    (if-some input (λ bytes e. (job_tree j, e, subst (λ (p : Program). stream.WritesSteps p limit old new) (sym (same-program j)) h)) read)

-- and so what was asked for was done
pub does_stream : (workers limit : ℕ) (look : LookValue) (input old new : Option (List ℕ)) (r : Result JobStatus RunFault)
    → RunsStream workers limit input old new r
    → Does (RunStream workers limit) look input old new (end_result r)
does_stream workers limit look input old new (Ok status) h =
    (small (status_seen status), if-some input (λ bytes w. (w.0, w.1, w.2, ap status_number w.3)) h)
does_stream workers limit look input old new (Err (Text x)) h = h
does_stream workers limit look input old new (Err Read) h = h
does_stream workers limit look input old new (Err Write) h = h
does_stream workers limit look input old new (Err Memory) h = h
does_stream workers limit look input old new (Err (NotStarted k)) h = h
does_stream workers limit look input old new (Err Internal) h = h
