-- The lines of a job's run that is taken superstep by superstep.
use Rattle.std.proofs.Common.{◌≡◌, ℕ, suc, ◌+◌, ◌≤◌, List, [], ◌++◌, Option, Some, None, true, false, refl, sym, ap, ◌∙◌, subst, arith, append-nil}
use Rattle.std.specs.Prelude.{ℤ, IfSome}
use Rattle.std.specs.Option.{is_some}
use Rattle.phase_records.specs.PrintValue.{PrintValue}
use Rattle.phase_records.specs.declared.record.PhaseRecord.{PhaseRecord}
use Rattle.phase_records.specs.ReportValue.{ReportValue}
use Rattle.phase_records.specs.Status.{Status}
use Rattle.task_code.specs.JobValue.{JobValue}
use Rattle.task_lang.specs.Views.{plans, task_of}
use Rattle.programs.specs.Supersteps.{status}
use Rattle.programs.specs.Steps.{ended, left_by}
use Rattle.programs.proofs.Stepped.{prints_taken, records_taken, so_far_ended, so_far_reported}
use Rattle.programs.proofs.Runs.{ends_in_time}
use Rattle.step_core.specs.Program.{Program, program_of}
use Rattle.step_core.specs.Superstep.{State, job_says}
use Rattle.step_core.specs.JobMeaning.{so_far, starts, report_of}
use Rattle.step_core.specs.JobRun.{JobRunValue, IsAfter, state_after}
use Rattle.job_stream.specs.Running.{IsWritten}
use Rattle.job_stream.specs.Streamed.{IsPiece, IsRest}

-- a run that went on by one superstep
pub record WentOn (r s : JobRunValue) : Type 0 where
  pub next : (n : ℕ) (ps : List PrintValue) (rs : List PhaseRecord) → IsAfter n ps rs r → IsAfter (n + 1) ps rs s
  pub job : s.job ≡ r.job
  pub limit : s.run.limit ≡ r.run.limit

-- the run with all that it printed and recorded taken away
abbrev pub emptied : JobRunValue → JobRunValue
emptied s = record s { run = record s.run { prints = []; records = [] } }

pub written_on : (j : JobValue) (limit n : ℕ) (r s : JobRunValue) → IsWritten j limit n r → WentOn r s
    → IsWritten j limit (n + 1) (emptied s)
written_on j limit n r s w o =
    let p = program_of s.job in
    let after = o.next n w.prints w.records w.after in
    record {
      job = o.job ∙ w.job;
      limit_is = o.limit ∙ w.limit_is;
      prints = w.prints ++ s.run.prints;
      records = w.records ++ s.run.records;
      after =
          records_taken (job_says (plans s.job.bodies)) s.job.arrays (starts p) (task_of (plans s.job.bodies))
          (prints_taken (job_says (plans s.job.bodies)) s.job.arrays (starts p) (task_of (plans s.job.bodies)) after);
      none = (refl, refl);
    }

module _ (j : JobValue) (limit n : ℕ) (r : JobRunValue) (w : IsWritten j limit n r) where
  state_is : (m : ℕ) → state_after r m ≡ so_far (program_of j) limit m
  state_is m = λ i. so_far (program_of (w.job i)) (w.limit_is i) m

  prints_are : w.prints ≡ (so_far (program_of j) limit n).prints
  prints_are =
      sym (append-nil w.prints) ∙ ap (λ (xs : List PrintValue). w.prints ++ xs) (sym w.none.0) ∙ ap (λ (x : State). x.prints) w.after.state
      ∙ ap (λ (x : State). x.prints) (state_is n)

  records_are : w.records ≡ (so_far (program_of j) limit n).records
  records_are =
      sym (append-nil w.records) ∙ ap (λ (xs : List PhaseRecord). w.records ++ xs) (sym w.none.1)
      ∙ ap (λ (x : State). x.records) w.after.state
      ∙ ap (λ (x : State). x.records) (state_is n)

  -- the lines of the next superstep
  pub piece_of : (s : JobRunValue) → WentOn r s
      → IsPiece (program_of j) limit (record { first = n; next = n + 1; prints = s.run.prints; records = s.run.records })
  piece_of s o =
      let after = o.next n w.prints w.records w.after in
      let now : state_after s (n + 1) ≡ so_far (program_of j) limit (n + 1) =
      λ i. so_far (program_of ((o.job ∙ w.job) i)) ((o.limit ∙ w.limit_is) i) (n + 1) in
      record {
        order = omega arith;
        prints =
            ap (λ (x : State). x.prints) (sym now) ∙ sym (ap (λ (x : State). x.prints) after.state)
            ∙ ap (λ (xs : List PrintValue). xs ++ s.run.prints) prints_are;
        records =
            ap (λ (x : State). x.records) (sym now) ∙ sym (ap (λ (x : State). x.records) after.state)
            ∙ ap (λ (xs : List PhaseRecord). xs ++ s.run.records) records_are;
      }

  -- how the run has ended
  pub status_is : status limit (so_far (program_of j) limit n) ≡ ended r.run
  status_is =
      (λ i. status (sym w.limit_is i) (sym (state_is n) i))
      ∙ so_far_ended (job_says (plans r.job.bodies)) r.job.arrays (starts (program_of r.job)) (task_of (plans r.job.bodies)) w.after

  -- what isn't written yet
  pub rest_is : (end : Status) → ended r.run ≡ Some end → IsRest (program_of j) limit n (left_by r.run end)
  rest_is end e = record {
    whole = record { prints = w.prints ++ r.run.prints; records = w.records ++ r.run.records; arrays = r.run.arrays; status = end };
    report =
        sym (λ i. report_of (program_of (w.job i)) (w.limit_is i))
        ∙ so_far_reported (job_says (plans r.job.bodies)) r.job.arrays (starts (program_of r.job)) (task_of (plans r.job.bodies)) end
        w.after e;
    prints = ap (λ (xs : List PrintValue). xs ++ r.run.prints) prints_are;
    records = ap (λ (xs : List PhaseRecord). xs ++ r.run.records) records_are;
    arrays = refl;
    status = refl;
  }

  -- the same of the report that the run leaves
  pub rest_of_report : is_some (status limit (so_far (program_of j) limit n)) ≡ true → (report : ReportValue)
      → IfSome (ended r.run) (λ end. report ≡ left_by r.run end)
      → IsRest (program_of j) limit n report
  rest_of_report some report reported = by (ended r.run) refl
    where
      none : false ≡ true → ⊥
      none e = cc

      by : (o : Option Status) → ended r.run ≡ o → IsRest (program_of j) limit n report
      by None e = absurd (none (ap is_some (sym (status_is ∙ e)) ∙ some))
      by (Some end) e =
          let is : report ≡ left_by r.run end = subst (λ (o : Option Status). IfSome o (λ x. report ≡ left_by r.run x)) e reported in
          subst (IsRest (program_of j) limit n) (sym is) (rest_is end e)

-- within the limit's supersteps a job ends
pub ends_there : (p : Program) (limit : ℕ) → is_some (status limit (so_far p limit limit)) ≡ true
ends_there p limit = by (status limit (so_far p limit limit)) refl
  where
    by : (o : Option Status) → status limit (so_far p limit limit) ≡ o → is_some o ≡ true
    by None e = absurd (ends_in_time (job_says p.plans) p.arrays (starts p) limit e)
    by (Some s) e = refl
