-- What a run leaves whose lines were handed out.
use Rattle.std.proofs.Common.{◌≡◌, ◌∙◌, ℕ, Bool, true, false, List, Option, Some, subst}
use Rattle.stretch_queue.specs.declared.hook.Closed.{Closed}
use Rattle.stretch_queue.specs.declared.hook.Closed.TheVariants.{Landed}
use Rattle.stream_workers.specs.Lines.{IfLines}
use Rattle.std.specs.Prelude.{IfSome}
use Rattle.atomic_table.specs.Seated.{TableId}
use Rattle.ghost_lists.specs.Agreed.{LogValue}
use Rattle.phase_records.specs.ReportValue.{ReportValue}
use Rattle.task_code.specs.JobValue.{JobValue}
use Rattle.task_lang.specs.TaskValue.{TaskValue}
use Rattle.step_core.specs.declared.job.JobProgram.{JobProgram}
use Rattle.program_stretches.specs.SuperstepStart.{SuperstepStartValue}
use Rattle.program_stretches.specs.StretchesValue.{StretchesValue}
use Rattle.program_stretches.specs.Closing.{HasLeft}
use Rattle.job_stream.specs.Running.{IsRunOf, job_reading}
use Rattle.stretch_queue.specs.Hooked.{bare}
use Rattle.stretch_queue.specs.Watched.{HasLeftKept, LeavesAs}

-- it wasn't stopped, so it has ended by itself
pub left_streamed : (j : JobValue) (limit : ℕ) (mark : TableId) (w : LogValue (SuperstepStartValue JobProgram TaskValue)) (given : ℕ)
    (outcome : ReportValue) (tasks : List TaskValue)
    → HasLeftKept job_reading (λ v stopped. (stopped ≡ false) × IsRunOf j limit v.log) mark w given outcome tasks
    → (w.name ≡ mark) × HasLeft job_reading w.log given outcome tasks
left_streamed j limit mark w given outcome tasks h = by h.last h.stopped h.of_mark h.keeps h.leaves
  where
    by : (v : StretchesValue JobProgram TaskValue) (stopped : Bool) → v.name ≡ mark → (stopped ≡ false) × IsRunOf j limit (bare v).log
        → LeavesAs job_reading v stopped w given outcome tasks
        → (w.name ≡ mark) × HasLeft job_reading w.log given outcome tasks
    by v true m k l = absurd (no k.0)
      where
        no : true ≡ false → ⊥
        no e = cc
    by v false m k l = (l.0 ∙ m, l.3)

-- the lines that are there have the property
pub lines_there : {L : Type 0} (P : L → Type 0) (c : Closed L) (o : Option L) (l : L) → c ≡ Landed o → o ≡ Some l → IfLines P c → P l
lines_there P c o l is there h = subst (λ (x : Option _). IfSome x P) there (subst (λ (x : Closed _). IfLines P x) is h)
