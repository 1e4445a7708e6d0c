-- What an outlet has written, call after call.
use Rattle.std.proofs.Common.{◌≡◌, ℕ, false, true≢false, List, [], Option, Some, None, Result, Ok, Err, refl, subst, ◌∙◌, append-nil}
use Rattle.std.specs.Prelude.{is_some}
use Rattle.std.specs.Io.KnownBytes.{Appends, Keeps}
use Rattle.phase_records.proofs.PassedBytes.{Appends-none}
use Rattle.phase_records.specs.declared.record.JobStatus.{JobStatus}
use Rattle.task_code.specs.JobValue.{JobValue}
use Rattle.step_core.specs.Program.{Program, program_of}
use Rattle.job_stream.specs.Streamed.{lines_of, Continues, Ends, StreamCause}
use Rattle.job_stream.specs.declared.fault.StreamFault.{StreamFault}
use Rattle.job_stream.specs.declared.fault.StreamFault.TheVariants.{Write, Memory, Internal}
use Rattle.job_stream.proofs.Streams.{goes_on, streams_failed, streams_ended}
use Rattle.stream_workers.specs.Written.{HasWritten, StreamsOn, CauseOn}
use Rattle.stream_workers.specs.declared.fault.WorkersStreamFault.{WorkersStreamFault}
use Rattle.stream_workers.specs.declared.fault.WorkersStreamFault.TheVariants.{Fault}

-- the lines of no superstep are nothing
pub nothing_kept : (old new : Option (List ℕ)) → Appends old new [] → Keeps old new
nothing_kept None new h = tt
nothing_kept (Some xs) None h = h
nothing_kept (Some xs) (Some ys) h = h ∙ append-nil xs

pub begins : (p : Program) (limit : ℕ) (held : Option (List ℕ)) (failures : ℕ) → HasWritten p limit held failures held failures 0 None
begins p limit held failures = (Appends-none held, refl)

same_cause : (T U : Type 0) (old mid new : ℕ) (fault : StreamFault) → mid ≡ old → StreamCause {T = T} mid new (Err fault)
    → StreamCause {T = U} old new (Err fault)
same_cause T U old mid new Write e h = subst (λ (k : ℕ). StreamCause {T = U} k new (Err Write)) e h
same_cause T U old mid new Memory e h = h ∙ e
same_cause T U old mid new Internal e h = h ∙ e

-- one call
pub goes : (p : Program) (limit : ℕ) (held : Option (List ℕ)) (failures : ℕ) (now new : Option (List ℕ)) (failed failed' written next : ℕ)
    → HasWritten p limit held failures now failed written None → Continues p limit written now new (Ok next) → failed' ≡ failed
    → HasWritten p limit held failures new failed' next None
goes p limit held failures now new failed failed' written next h c e = (goes_on p limit written next held now new h.0 c, e ∙ h.1)

pub stops : (T : Type 0) (p : Program) (limit : ℕ) (held : Option (List ℕ)) (failures : ℕ) (now new : Option (List ℕ))
    (failed failed' written : ℕ) (fault : StreamFault)
    → HasWritten p limit held failures now failed written None → Continues p limit written now new (Err fault)
    → StreamCause {T = T} failed failed' (Err fault)
    → HasWritten p limit held failures new failed' written (Some fault)
stops T p limit held failures now new failed failed' written fault h c e =
    (streams_failed p limit written held now new fault h.0 c, same_cause T JobStatus failures failed failed' fault h.1 e)

-- how a run ends
pub ends_on : (workers : ℕ) (p : Program) (limit n : ℕ) (held old new : Option (List ℕ)) (status : JobStatus)
    → Ends p limit n old new (Ok status)
    → Appends held old (lines_of p limit n) → StreamsOn workers p limit held new (Ok status)
ends_on workers p limit n held old new status h a = streams_ended p limit n held old new (Ok status) a h

pub fails_on : (workers : ℕ) (p : Program) (limit n : ℕ) (held old new : Option (List ℕ)) (fault : StreamFault)
    → Ends p limit n old new (Err fault)
    → Appends held old (lines_of p limit n) → StreamsOn workers p limit held new (Err (Fault fault))
fails_on workers p limit n held old new fault h a = streams_ended p limit n held old new (Err fault) a h

-- with the failures of the whole run
pub cause_on : (old mid new : ℕ) (r : Result JobStatus WorkersStreamFault) → mid ≡ old → CauseOn mid new r → CauseOn old new r
cause_on old mid new r e h = subst (λ (k : ℕ). CauseOn k new r) e h

-- the same as an outlet keeps it, whose job and limit are those of the run
pub stops_there : (j k : JobValue) (l m : ℕ) → j ≡ k → l ≡ m
    → (held : Option (List ℕ)) (failures : ℕ) (now new : Option (List ℕ)) (failed failed' written : ℕ) (o : Option StreamFault)
    (fault : StreamFault) → is_some o ≡ false → HasWritten (program_of k) m held failures now failed written o
    → Continues (program_of j) l written now new (Err fault)
    → StreamCause {T = ℕ} failed failed' (Err fault) → HasWritten (program_of k) m held failures new failed' written (Some fault)
stops_there j k l m same to held failures now new failed failed' written None fault calm h c e =
    stops ℕ (program_of k) m held failures now new failed failed' written fault h
    (subst (λ (n : ℕ). Continues (program_of k) n written now new (Err fault)) to (subst (λ (x : JobValue). Continues (program_of x) l written now new (Err fault)) same c))
    e
stops_there j k l m same to held failures now new failed failed' written (Some f) fault calm h c e = absurd (true≢false calm)
