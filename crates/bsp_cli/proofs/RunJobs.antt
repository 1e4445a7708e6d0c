-- What running a job leaves.
use Rattle.std.proofs.Common.{◌≡◌, ℕ, List, [], ◌∷◌, map, Option, Some, None, Result, Ok, Err, refl, sym, subst, ap, ◌∙◌, ◌≤◌, arith}
use Rattle.std.specs.Prelude.{IfSome}
use Rattle.phase_records.specs.ReportValue.{ReportValue}
use Rattle.phase_records.specs.ReportText.{report_text}
use Rattle.job_view.specs.Look.{LookValue}
use Rattle.job_view.specs.ReportJson.{json_text}
use Rattle.phase_records.specs.Status.{Status, Ended, Fault, Limit}
use Rattle.phase_records.specs.StatusSeen.{status_seen}
use Rattle.phase_records.specs.declared.record.JobStatus.{JobStatus}
use Rattle.task_code.specs.BodyValue.{BodyValue}
use Rattle.task_code.specs.JobValue.{JobValue}
use Rattle.task_lang.specs.Meaning.{Plan}
use Rattle.task_lang.specs.Views.{plans}
use Rattle.job_reader.specs.Trees.{body_tree, job_tree}
use Rattle.job_reader.specs.Reading.{job_in}
use Rattle.step_core.specs.Program.{Program, program_of}
use Rattle.step_core.specs.JobMeaning.{report_of}
use Rattle.bsp_cli.specs.Jobs.{plan_of, program_of_tree, status_number}
use Rattle.std.specs.Io.KnownBytes.{Appends, Keeps}
use Rattle.phase_records.specs.Device.{AppendsBeginning}
use Rattle.bsp_cli.specs.Drawn.{drawn, program_of_text}
use Rattle.bsp_cli.specs.Ends.{IsOfPool, ReadCause, WriteCause, Reports, Runs, Draws, Does, end_result}
use Rattle.bsp_words.specs.declared.asked.Asked.TheVariants.{Run, RunJson, Draw}
use Rattle.bsp_cli.specs.declared.fault.RunFault.{RunFault}
use Rattle.bsp_cli.specs.declared.fault.RunFault.TheVariants.{Text, Read, Write, Memory, NotStarted, Internal}

same-plans : (bs : List BodyValue) → map plan_of (map body_tree bs) ≡ plans bs
same-plans [] = refl
same-plans (b ∷ bs) = ap (λ (ps : List Plan). plan_of (body_tree b) ∷ ps) (same-plans bs)

pub same-program : (j : JobValue) → program_of_tree (job_tree j) ≡ program_of j
same-program j = ap (λ (ps : List Plan). record { arrays = j.arrays; plans = ps; starts = j.starts }) (same-plans j.bodies)

pub left : (j : JobValue) (limit : ℕ) (report : ReportValue) → report_of (program_of j) limit ≡ Some report
    → report_of (program_of_tree (job_tree j)) limit ≡ Some report
left j limit report e = ap (λ (p : Program). report_of p limit) (same-program j) ∙ e

pub if-some : {P Q : List ℕ → Type 0} (o : Option (List ℕ)) → ((x : List ℕ) → P x → Q x) → IfSome o P → IfSome o Q
if-some None so h = tt
if-some (Some x) so h = so x h

pub small : (s : Status) → status_number s ≤ 3
small (Ended n) = omega arith
small (Fault c n p) = omega arith
small (Limit n) = omega arith

-- a job that was read and run, and its report that was written
pub runs : (form : ReportValue → List ℕ) (workers limit : ℕ) (input old new : Option (List ℕ)) (j : JobValue) (report : ReportValue)
    (r : Result JobStatus RunFault)
    → IfSome input (λ bytes. job_in bytes ≡ Ok (job_tree j)) → report_of (program_of j) limit ≡ Some report → Reports form report old new r
    → Runs form workers limit input old new r
runs form workers limit input old new j report (Ok status) read left_it h =
    if-some input (λ bytes e. (report, (job_tree j, e, left j limit report left_it), h.0, h.1)) read
runs form workers limit input old new j report (Err (Text x)) read left_it h = absurd h
runs form workers limit input old new j report (Err Read) read left_it h = absurd h
runs form workers limit input old new j report (Err Write) read left_it h =
    if-some input (λ bytes e. (report, (job_tree j, e, left j limit report left_it), h)) read
runs form workers limit input old new j report (Err Memory) read left_it h = h
runs form workers limit input old new j report (Err (NotStarted k)) read left_it h = absurd h
runs form workers limit input old new j report (Err Internal) read left_it h = absurd h

-- and so what was asked for was done
pub does : (workers limit : ℕ) (look : LookValue) (input old new : Option (List ℕ)) (r : Result JobStatus RunFault)
    → Runs report_text workers limit input old new r
    → Does (Run workers limit) look input old new (end_result r)
does workers limit look input old new (Ok status) h =
    (small (status_seen status), if-some input (λ bytes w. (w.0, w.1, w.2, ap status_number w.3)) h)
does workers limit look input old new (Err (Text x)) h = h
does workers limit look input old new (Err Read) h = h
does workers limit look input old new (Err Write) h = h
does workers limit look input old new (Err Memory) h = h
does workers limit look input old new (Err (NotStarted k)) h = h
does workers limit look input old new (Err Internal) h = h

-- and written as JSON
pub does_json : (workers limit : ℕ) (look : LookValue) (input old new : Option (List ℕ)) (r : Result JobStatus RunFault)
    → Runs json_text workers limit input old new r
    → Does (RunJson workers limit) look input old new (end_result r)
does_json workers limit look input old new (Ok status) h =
    (small (status_seen status), if-some input (λ bytes w. (w.0, w.1, w.2, ap status_number w.3)) h)
does_json workers limit look input old new (Err (Text x)) h = h
does_json workers limit look input old new (Err Read) h = h
does_json workers limit look input old new (Err Write) h = h
does_json workers limit look input old new (Err Memory) h = h
does_json workers limit look input old new (Err (NotStarted k)) h = h
does_json workers limit look input old new (Err Internal) h = h

-- and drawn
pub draws : (workers limit : ℕ) (look : LookValue) (input old new : Option (List ℕ)) (r : Result JobStatus RunFault)
    → Draws look workers limit input old new r
    → Does (Draw workers limit) look input old new (end_result r)
draws workers limit look input old new (Ok status) h =
    (small (status_seen status), if-some input (λ bytes w. (w.0, w.1, w.2, ap status_number w.3)) h)
draws workers limit look input old new (Err (Text x)) h = h
draws workers limit look input old new (Err Read) h = h
draws workers limit look input old new (Err Write) h = h
draws workers limit look input old new (Err Memory) h = h
draws workers limit look input old new (Err (NotStarted k)) h = h
draws workers limit look input old new (Err Internal) h = h

-- the program of a text is that of the job that was read
program-read : (j : JobValue) (bytes : List ℕ) → job_in bytes ≡ Ok (job_tree j) → program_of j ≡ program_of_text (job_in bytes)
program-read j bytes e = sym (ap program_of_text e ∙ same-program j)

-- a job that was read and run, and its picture that was written
pub draws_runs : (look : LookValue) (workers limit : ℕ) (input old new : Option (List ℕ)) (j : JobValue) (report : ReportValue)
    (r : Result JobStatus RunFault)
    → IfSome input (λ bytes. job_in bytes ≡ Ok (job_tree j)) → report_of (program_of j) limit ≡ Some report
    → Reports (drawn look (program_of j) limit) report old new r → Draws look workers limit input old new r
draws_runs look workers limit input old new j report (Ok status) read left_it h =
    if-some input (λ bytes e. (
      report,
      (job_tree j, e, left j limit report left_it),
      subst (λ (p : Program). Appends old new (drawn look p limit report)) (program-read j bytes e) h.0,
      h.1,
    )) read
draws_runs look workers limit input old new j report (Err (Text x)) read left_it h = absurd h
draws_runs look workers limit input old new j report (Err Read) read left_it h = absurd h
draws_runs look workers limit input old new j report (Err Write) read left_it h =
    if-some input (λ bytes e. (
      report,
      (job_tree j, e, left j limit report left_it),
      subst (λ (p : Program). AppendsBeginning old new (drawn look p limit report)) (program-read j bytes e) h,
    )) read
draws_runs look workers limit input old new j report (Err Memory) read left_it h = h
draws_runs look workers limit input old new j report (Err (NotStarted k)) read left_it h = absurd h
draws_runs look workers limit input old new j report (Err Internal) read left_it h = absurd h

keeps : (o : Option (List ℕ)) → Keeps o o
keeps None = tt
keeps (Some xs) = refl

-- where workers leave nothing, nothing was written
pub pool_runs : (form : ReportValue → List ℕ) (workers limit : ℕ) (input old : Option (List ℕ)) (fault : RunFault) → IsOfPool workers fault
    → Runs form workers limit input old old (Err fault)
pool_runs form workers limit input old (Text r) h = absurd h
pool_runs form workers limit input old Read h = absurd h
pool_runs form workers limit input old Write h = absurd h
pool_runs form workers limit input old Memory h = keeps old
pool_runs form workers limit input old (NotStarted k) h = (keeps old, h)
pool_runs form workers limit input old Internal h = keeps old

-- and no device failed
pub pool_reads : (workers old new : ℕ) (fault : RunFault) → IsOfPool workers fault → new ≡ old
    → ReadCause {T = JobStatus} old new (Err fault)
pool_reads workers old new (Text r) h e = absurd h
pool_reads workers old new Read h e = absurd h
pool_reads workers old new Write h e = absurd h
pool_reads workers old new Memory h e = e
pool_reads workers old new (NotStarted k) h e = e
pool_reads workers old new Internal h e = e

pub pool_writes : (workers old : ℕ) (fault : RunFault) → IsOfPool workers fault → WriteCause {T = JobStatus} old old (Err fault)
pool_writes workers old (Text r) h = absurd h
pool_writes workers old Read h = absurd h
pool_writes workers old Write h = absurd h
pool_writes workers old Memory h = refl
pool_writes workers old (NotStarted k) h = refl
pool_writes workers old Internal h = refl

-- nor drawn
pub pool_draws : (look : LookValue) (workers limit : ℕ) (input old : Option (List ℕ)) (fault : RunFault) → IsOfPool workers fault
    → Draws look workers limit input old old (Err fault)
pool_draws look workers limit input old (Text r) h = absurd h
pool_draws look workers limit input old Read h = absurd h
pool_draws look workers limit input old Write h = absurd h
pool_draws look workers limit input old Memory h = keeps old
pool_draws look workers limit input old (NotStarted k) h = (keeps old, h)
pool_draws look workers limit input old Internal h = keeps old
