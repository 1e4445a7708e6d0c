-- What is written, call after call.
use Rattle.std.proofs.Common.{◌≡◌, ℕ, ◌≤◌, List, [], ◌∷◌, ◌++◌, Option, Some, None, Result, Ok, Err, sym, ap, ◌∙◌, subst, append_assoc, append-nil}
use Rattle.std.specs.Prelude.{IfSome, OnOk}
use Rattle.std.specs.Io.KnownBytes.{Appends}
use Rattle.phase_records.specs.Device.{AppendsBeginning}
use Rattle.phase_records.proofs.PassedBytes.{Appends-none, Appends-more, Appends-kept, Appends-beginning, beginning_longer}
use Rattle.ghost_lists.specs.Agreed.{WasBefore}
use Rattle.phase_records.specs.ReportValue.{ReportValue}
use Rattle.phase_records.specs.ReportText.{steps_text, report_text}
use Rattle.phase_records.specs.declared.record.JobStatus.{JobStatus}
use Rattle.task_code.specs.JobValue.{JobValue}
use Rattle.task_lang.specs.TaskValue.{TaskValue}
use Rattle.step_core.specs.Program.{Program, program_of}
use Rattle.step_core.specs.declared.job.JobProgram.{JobProgram}
use Rattle.program_stretches.specs.SuperstepStart.{SuperstepStartValue}
use Rattle.program_stretches.specs.Parts.{Reading}
use Rattle.program_stretches.specs.LinesValue.{LinesValue}
use Rattle.program_stretches.specs.StretchesValue.{StretchesValue}
use Rattle.program_stretches.specs.Closing.{IsGiven}
use Rattle.job_stream.specs.declared.fault.StreamFault.{StreamFault}
use Rattle.job_stream.specs.declared.fault.StreamFault.TheVariants.{Write, Memory, Internal}
use Rattle.job_stream.specs.Streamed.{lines_of, IsPiece, IsRest, Streams, Ends, Continues, Closes, WritesWhole, StreamCause}
use Rattle.job_stream.specs.Running.{IsRunOf, IsGivenAfter, job_reading}
use Rattle.job_stream.proofs.Texts.{lines_later, some_rest, rest_text}
use Rattle.job_stream.proofs.Pieces.{given_piece}

-- ---- one superstep

-- a log that went on is of the same run
pub run_on : (j : JobValue) (limit : ℕ) (earlier log : List (SuperstepStartValue JobProgram TaskValue)) → IsRunOf j limit earlier
    → WasBefore earlier log → IsRunOf j limit log
run_on j limit earlier log r w = record {
  first = r.first;
  since = w.since ++ r.since;
  begun =
      w.is ∙ ap (λ (l : List (SuperstepStartValue JobProgram TaskValue)). w.since ++ l) r.begun
      ∙ sym (append_assoc w.since r.since (r.first ∷ []));
  job = r.job;
  most = r.most;
  limit_is = r.limit_is;
  arrays = r.arrays;
  tasks = r.tasks;
}

pub on_ok : {X E : Type 0} (r : Result X E) (A : Type 0) → A → OnOk r A
on_ok (Ok x) A a = a
on_ok (Err e) A a = tt

-- ---- what one call writes

pub piece_continues : (p : Program) (limit : ℕ) (l : LinesValue) → IsPiece p limit l → (n : ℕ) → l.first ≡ n
    → lines_of p limit l.next ≡ lines_of p limit n ++ steps_text l.prints l.records
piece_continues p limit l h n e =
    lines_later p limit l.first l.next h.order l.prints l.records h.prints h.records
    ∙ ap (λ (k : ℕ). lines_of p limit k ++ steps_text l.prints l.records) e

pub fails_continue : (p : Program) (limit n next : ℕ) (text : List ℕ) (old new : Option (List ℕ)) (fault : StreamFault)
    → lines_of p limit next ≡ lines_of p limit n ++ text
    → WritesWhole text old new (Err fault) → Continues p limit n old new (Err fault)
fails_continue p limit n next text old new Write e h = (next, (text, e, h))
fails_continue p limit n next text old new Memory e h = h
fails_continue p limit n next text old new Internal e h = h

pub ends_after : (p : Program) (limit n : ℕ) (rest : ReportValue) (h : IsRest p limit n rest) (old new : Option (List ℕ))
    (r : Result JobStatus StreamFault)
    → Closes rest old new r → Ends p limit n old new r
ends_after p limit n rest h old new (Ok status) k =
    (h.whole, h.report, (report_text rest, rest_text p limit n rest h, k.0), k.1 ∙ sym h.status)
ends_after p limit n rest h old new (Err Write) k = (h.whole, h.report, (report_text rest, rest_text p limit n rest h, k))
ends_after p limit n rest h old new (Err Memory) k = k
ends_after p limit n rest h old new (Err Internal) k = k

-- ---- call after call

pub goes_on : (p : Program) (limit n next : ℕ) (old mid new : Option (List ℕ)) → Appends old mid (lines_of p limit n)
    → Continues p limit n mid new (Ok next) → Appends old new (lines_of p limit next)
goes_on p limit n next old mid new a h =
    subst (λ (t : List ℕ). Appends old new t) (sym h.1) (Appends-more old mid new (lines_of p limit n) h.0 a h.2)

pub streams_failed : (p : Program) (limit n : ℕ) (old mid new : Option (List ℕ)) (fault : StreamFault)
    → Appends old mid (lines_of p limit n) → Continues p limit n mid new (Err fault)
    → Streams p limit old new (Err fault)
streams_failed p limit n old mid new Write a h =
    let r = some_rest p limit h.0 in (
      r.report,
      r.is,
      subst (λ (t : List ℕ). AppendsBeginning old new t) (sym r.text)
          (beginning_longer old new (lines_of p limit h.0) r.rest
          (subst (λ (t : List ℕ). AppendsBeginning old new t) (sym h.1.1) (Appends-beginning old mid new (lines_of p limit n) h.1.0 a h.1.2))),
    )
streams_failed p limit n old mid new Memory a h = (n, Appends-kept old mid new (lines_of p limit n) a h)
streams_failed p limit n old mid new Internal a h = (n, Appends-kept old mid new (lines_of p limit n) a h)

pub streams_ended : (p : Program) (limit n : ℕ) (old mid new : Option (List ℕ)) (r : Result JobStatus StreamFault)
    → Appends old mid (lines_of p limit n) → Ends p limit n mid new r
    → Streams p limit old new r
streams_ended p limit n old mid new (Ok status) a h =
    let t = h.2 in
    (h.0, h.1, subst (λ (xs : List ℕ). Appends old new xs) (sym t.1) (Appends-more old mid new (lines_of p limit n) t.0 a t.2), h.3)
streams_ended p limit n old mid new (Err Write) a h =
    let t = h.2 in (
      h.0,
      h.1,
      subst (λ (xs : List ℕ). AppendsBeginning old new xs) (sym t.1) (Appends-beginning old mid new (lines_of p limit n) t.0 a t.2),
    )
streams_ended p limit n old mid new (Err Memory) a h = (n, Appends-kept old mid new (lines_of p limit n) a h)
streams_ended p limit n old mid new (Err Internal) a h = (n, Appends-kept old mid new (lines_of p limit n) a h)

pub cause_after : {T : Type 0} (old mid new : ℕ) (r : Result T StreamFault) → mid ≡ old → StreamCause mid new r → StreamCause old new r
cause_after old mid new r e h = subst (λ (k : ℕ). StreamCause k new r) e h
