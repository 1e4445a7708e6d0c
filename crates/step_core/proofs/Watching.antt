-- A job on one thread, from the run of its program.
use Rattle.std.proofs.Common.{◌≡◌, ℕ, ◌+◌, ◌-◌, ◌<◌, ◌≤◌, ◌⊎◌, inl, inr, Bool, true, false, nat_lt, List, map, length, Some, None, refl, sym, ap, ◌∙◌, subst, arith}
use Rattle.std.specs.Prelude.{ℤ}
use Rattle.std.proofs.lemmas.Bool.{ltb-true, ltb-false}
use Rattle.phase_records.specs.ReportValue.{ReportValue}
use Rattle.task_code.specs.JobValue.{JobValue}
use Rattle.task_lang.specs.TaskValue.{TaskValue}
use Rattle.task_lang.specs.Views.{plans, task_of}
use Rattle.task_lang.specs.Meaning as job
use Rattle.step_core.specs.Program.{Program, program_of}
use Rattle.step_core.specs.JobMeaning.{so_far, start_tasks, report_of, starts}
use Rattle.programs.specs.Supersteps.{status}
use Rattle.step_core.specs.Superstep.{State, job_frame, job_says}
use Rattle.programs.proofs.Runs.{going_on, ended_stays}
use Rattle.programs.specs.Supersteps as gm
use Rattle.programs.specs.History.{says_by, HasRun, HasRunTo, OfState}
use Rattle.programs.proofs.Exactly.{so_far_same}
use Rattle.step_core.specs.JobTasks.{JobMay}
use Rattle.step_core.proofs.Starts.{setup_with, setup_of, starts_begin, job_report}
use Rattle.step_core.specs.Watching.{SawAll}

module _ (seen : ℕ → List (List ℕ × List ℤ) → ℕ → Type 0) (p : Program) (limit : ℕ) (outcome : ReportValue) (living : List job.Task)
    (h : HasRun (setup_of p limit) outcome living) where
  by_history : ℕ → State
  by_history n = gm.so_far (says_by job_frame 4096 h.history) p.arrays (starts p) limit n

  -- the history and the job say the same of each state
  same : (n : ℕ) → n ≤ length h.history → gm.so_far (says_by job_frame 4096 h.history) p.arrays (starts p) limit n ≡ so_far p limit n
  same n le =
      so_far_same job_frame (JobMay p.plans) 4096 (job.segment_of p.plans) (λ t arrays step g e. e) p.arrays (starts p) limit
      (starts_begin p) outcome living h n le

  over : status limit (so_far p limit (length h.history)) ≡ Some outcome.status
  over = ap (status limit) (sym (same (length h.history) (omega arith))) ∙ h.ended

  -- a superstep that the job begins is one of the history
  begun : (n : ℕ) → status limit (so_far p limit n) ≡ None → n < length h.history
  begun n run = by (nat_lt n (length h.history)) refl
    where
      by : (b : Bool) → nat_lt n (length h.history) ≡ b → n < length h.history
      by true e = ltb-true _ _ e
      by false e =
          let le = ltb-false _ _ e in
          let back : (n - length h.history) + length h.history ≡ n = omega (arith, le) in
          let stays =
          ended_stays (job_says p.plans) p.arrays (starts p) limit (length h.history) (n - length h.history) outcome.status over in
          let wrong : None ≡ Some outcome.status =
          sym run ∙ ap (λ (k : ℕ). status limit (so_far p limit k)) (sym back) ∙ ap (status limit) stays ∙ over in
          absurd cc

  pub saw_all : ((n : ℕ) → n < length h.history → OfState seen (gm.so_far (says_by job_frame 4096 h.history) p.arrays (starts p) limit n))
      → SawAll seen p limit
  saw_all went n run =
      let lt = begun n run in
      let st = so_far p limit n in
      let at : OfState seen st = subst (OfState seen) (same n (omega (arith, lt))) (went n lt) in
      subst (λ (k : ℕ). seen k st.arrays (length st.live)) ((going_on (job_says p.plans) p.arrays (starts p) limit n run).step) at

-- a run of a job's program leaves its report, and shows each of its supersteps to a watcher that never stops it
pub record Leaves (seen : ℕ → List (List ℕ × List ℤ) → ℕ → Type 0) (p : Program) (limit : ℕ) (outcome : ReportValue) : Type 0 where
  pub report : report_of p limit ≡ Some outcome
  pub saw : SawAll seen p limit

module _ (seen : ℕ → List (List ℕ × List ℤ) → ℕ → Type 0) (limit : ℕ) (outcome : ReportValue) (living : List job.Task) where
  leaves_from : (p : Program)
      → HasRunTo (λ step arrays tasks. ⊥) seen (setup_of p limit) outcome living
      → Leaves seen p limit outcome
  leaves_from p h = by h.stopped
    where
      at : Leaves seen p h.taken outcome
      at = record { report = job_report p h.taken outcome living h.run; saw = saw_all seen p h.taken outcome living h.run h.went }

      by : (h.taken ≡ limit) ⊎ ⊥ → Leaves seen p limit outcome
      by (inl e) = subst (λ (n : ℕ). Leaves seen p n outcome) e at
      by (inr x) = absurd x

  pub job_leaves : (j : JobValue) (arrays : List (List ℕ × List ℤ)) (ts : List TaskValue)
      → arrays ≡ j.arrays → map (task_of (plans j.bodies)) ts ≡ start_tasks (plans j.bodies) 0 j.starts
      → HasRunTo (λ step arrays tasks. ⊥) seen (setup_with (plans j.bodies) arrays (map (task_of (plans j.bodies)) ts) limit) outcome living
      → Leaves seen (program_of j) limit outcome
  job_leaves j arrays ts ea et h =
      leaves_from (program_of j)
      (subst (λ (xs : List (List ℕ × List ℤ)). HasRunTo (λ step ys tasks. ⊥) seen (setup_with (plans j.bodies) xs (starts (program_of j)) limit) outcome living) ea
      (subst (λ (us : List job.Task). HasRunTo (λ step ys tasks. ⊥) seen (setup_with (plans j.bodies) arrays us limit) outcome living) et h))
