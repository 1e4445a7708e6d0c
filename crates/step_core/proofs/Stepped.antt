-- A run of a job that is taken superstep by superstep.
use Rattle.std.proofs.Common.{◌≡◌, ℕ, suc, ◌+◌, ◌-◌, ◌≤◌, true, false, List, [], ◌++◌, map, Option, Some, None, Result, Ok, Err, refl, sym, ap, ◌∙◌, subst, arith}
use Rattle.std.specs.Option.{is_some}
use Rattle.std.specs.Prelude.{ℤ, IsSome, OnOk, OnErr}
use Rattle.phase_records.specs.PrintValue.{PrintValue}
use Rattle.phase_records.specs.declared.record.PhaseRecord.{PhaseRecord}
use Rattle.phase_records.specs.Status.{Status}
use Rattle.task_code.specs.JobValue.{JobValue}
use Rattle.task_lang.specs.TaskValue.{TaskValue}
use Rattle.task_lang.specs.Meaning.{segment_of}
use Rattle.task_lang.specs.Views.{plans, task_of}
use Rattle.programs.specs.Order.{AreOrdered}
use Rattle.programs.specs.Steps.{StepsValue, begun, ended, IsRunning, HasStepped}
use Rattle.programs.proofs.Stepped.{prints_taken, records_taken, so_far_none, so_far_stays, so_far_more}
use Rattle.step_core.specs.Program.{program_of}
use Rattle.step_core.specs.Superstep.{job_frame, job_says}
use Rattle.step_core.specs.JobMeaning.{starts}
use Rattle.step_core.specs.JobTasks.{JobMay}
use Rattle.step_core.specs.JobRun.{JobRunValue, HasReached, IsAfter, IsLater, HasStepped as HasSteppedOn}

abbrev run_of : JobValue → StepsValue TaskValue → JobRunValue
run_of j v = record { job = j; run = v }

-- before the first superstep
pub run_begun : (j : JobValue) (arrays : List (List ℕ × List ℤ)) (ts : List TaskValue) (limit : ℕ) (v : StepsValue TaskValue)
    → arrays ≡ j.arrays
    → map (task_of (plans j.bodies)) ts ≡ starts (program_of j) → v ≡ begun arrays ts 4096 limit → IsAfter 0 [] [] (run_of j v)
run_begun j arrays ts limit v ea et e =
    subst (λ (w : StepsValue TaskValue). IsAfter 0 [] [] (run_of j w))
    (sym (e ∙ ap (λ (a : List (List ℕ × List ℤ)). begun a ts 4096 limit) ea))
    (so_far_none (job_says (plans j.bodies)) j.arrays (starts (program_of j)) (task_of (plans j.bodies)) ts limit et)

-- what a call of `step` has done, if it didn't run out of memory
abbrev Has : JobValue → StepsValue TaskValue → StepsValue TaskValue → Type 0
Has j v new = (n : ℕ) (ps : List PrintValue) (rs : List PhaseRecord) → IsAfter n ps rs (run_of j v) → IsAfter (n + 1) ps rs (run_of j new)

abbrev Stepped : JobValue → StepsValue TaskValue → StepsValue TaskValue → Type 0
Stepped j v new = HasStepped job_frame (JobMay (plans j.bodies)) (task_of (plans j.bodies)) v new

module _ {X E : Type 0} (j : JobValue) (v new : StepsValue TaskValue) where
  pub has_stepped : (r : Result X E) → AreOrdered job_frame (map (task_of (plans j.bodies)) v.tasks)
      → (IsSome (ended v) → OnOk r (new ≡ v) × OnErr r ⊥)
      → (IsRunning v → OnOk r (Stepped j v new)) → OnOk r (Has j v new)
  has_stepped (Err x) ordered over step = tt
  has_stepped (Ok x) ordered over step = λ n ps rs h. by n ps rs h (ended v) refl
    where
      by : (n : ℕ) (ps : List PrintValue) (rs : List PhaseRecord) → IsAfter n ps rs (run_of j v) → (o : Option Status) → ended v ≡ o
          → IsAfter (n + 1) ps rs (run_of j new)
      by n ps rs h (Some s) e =
          let one : 1 + n ≡ n + 1 = omega arith in
          let same : new ≡ v = (over (subst (λ (o : Option Status). IsSome o) (sym e) refl)).0 in
          subst (λ (m : ℕ). IsAfter m ps rs (run_of j new)) one
          (subst (λ (w : StepsValue TaskValue). IsAfter (1 + n) ps rs (run_of j w)) (sym same)
          (so_far_stays (job_says (plans j.bodies)) j.arrays (starts (program_of j)) (task_of (plans j.bodies)) 1 s h e))
      by n ps rs h None e =
          let one : suc n ≡ n + 1 = omega arith in
          let run : IsRunning v = record { sound = h.sound; going = e } in
          subst (λ (m : ℕ). IsAfter m ps rs (run_of j new)) one
          (so_far_more job_frame (JobMay (plans j.bodies)) 4096 (segment_of (plans j.bodies)) (λ t arrays step g is. is) j.arrays
          (starts (program_of j)) (task_of (plans j.bodies)) h run ordered.rising (step run))

-- a superstep of the run is one of the job
pub stepped_of : {X E : Type 0} (j : JobValue) (v new : StepsValue TaskValue) (r : Result X E) → (IsRunning v → OnOk r (Stepped j v new))
    → IsRunning v
    → OnOk r (HasSteppedOn (run_of j v) (run_of j new))
stepped_of j v new (Ok x) h run = record { job = refl; run = h run }
stepped_of j v new (Err x) h run = tt

-- nothing was done
pub none_on : (r : JobRunValue) → IsLater 0 r r
none_on r = record { job = refl; limit = refl; reached = λ n h. let e : n ≡ n + 0 = omega arith in subst (λ (m : ℕ). HasReached m r) e h }

-- one superstep more
pub more_on : (k : ℕ) (r s t : JobRunValue) → IsLater k r s → IsLater 1 s t → IsLater (k + 1) r t
more_on k r s t h g = record {
  job = g.job ∙ h.job;
  limit = g.limit ∙ h.limit;
  reached = λ n a. let e : n + k + 1 ≡ n + (k + 1) = omega arith in subst (λ (m : ℕ). HasReached m t) e (g.reached (n + k) (h.reached n a));
}

-- after the end all are taken
pub ended_on : (k m : ℕ) (r s : JobRunValue) → IsLater k r s → is_some (ended s.run) ≡ true → k ≤ m → IsLater m r s
ended_on k m r s h some le = record {
  job = h.job;
  limit = h.limit;
  reached = λ n a. by n (h.reached n a) (ended s.run) refl;
}
  where
    by : (n : ℕ) → HasReached (n + k) s → (o : Option Status) → ended s.run ≡ o → HasReached (n + m) s
    by n a None e = let bad : false ≡ true = ap is_some (sym e) ∙ some in cc
    by n a (Some end) e =
        let all : (m - k) + (n + k) ≡ n + m = omega (arith, le) in
        record {
          prints = a.prints;
          records = a.records;
          after =
              subst (λ (i : ℕ). IsAfter i a.prints a.records s) all
              (so_far_stays (job_says (plans s.job.bodies)) s.job.arrays (starts (program_of s.job)) (task_of (plans s.job.bodies)) (m - k) end a.after e);
        }

-- one superstep, whose prints and records are taken away
pub one_on : (r s t u : JobRunValue)
    → ((n : ℕ) (ps : List PrintValue) (rs : List PhaseRecord) → IsAfter n ps rs r → IsAfter (n + 1) ps rs s) → s.job ≡ r.job
    → s.run.limit ≡ r.run.limit
    → t ≡ record s { run = record s.run { prints = [] } } → u ≡ record t { run = record t.run { records = [] } } → IsLater 1 r u
one_on r s t u next job limit et eu =
    subst (IsLater 1 r) (sym (eu ∙ ap (λ (x : JobRunValue). record x { run = record x.run { records = [] } }) et))
    (record {
      job = job;
      limit = limit;
      reached = λ n a.
          let p = program_of s.job in
          record {
            prints = a.prints ++ s.run.prints;
            records = a.records ++ s.run.records;
            after =
                records_taken (job_says (plans s.job.bodies)) s.job.arrays (starts p) (task_of (plans s.job.bodies))
                (prints_taken (job_says (plans s.job.bodies)) s.job.arrays (starts p) (task_of (plans s.job.bodies)) (next n a.prints a.records a.after));
          };
    })
