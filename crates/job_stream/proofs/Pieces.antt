-- What the supersteps of a job's run give away.
use Rattle.std.proofs.Common.{◌≡◌, ℕ, ◌≤◌, ◌<◌, List, [], ◌∷◌, ◌++◌, map, length, Option, Some, None, get_or, refl, sym, ap, ◌∙◌, subst, arith, append_assoc}
use Rattle.std.specs.Prelude.{ℤ}
use Rattle.ghost_lists.specs.Agreed.{WasBefore}
use Rattle.phase_records.specs.ReportValue.{ReportValue}
use Rattle.phase_records.specs.Status.{Status}
use Rattle.task_code.specs.JobValue.{JobValue}
use Rattle.task_lang.specs.TaskValue.{TaskValue}
use Rattle.task_lang.specs.Views.{plans, task_of}
use Rattle.task_lang.specs.Meaning as job
use Rattle.step_core.specs.Program.{Program, program_of}
use Rattle.programs.specs.Supersteps as gm
use Rattle.programs.specs.History.{Entry, says_by, IsEntered, HasRun, living_after}
use Rattle.programs.proofs.Exactly.{so_far_same}
use Rattle.programs.proofs.Histories.{so_far_shorter}
use Rattle.programs.proofs.Runs.{ends_in_time}
use Rattle.step_core.specs.declared.job.JobProgram.{JobProgram}
use Rattle.step_core.specs.JobTasks.{JobMay}
use Rattle.step_core.specs.Superstep.{State, job_frame, job_says}
use Rattle.step_core.specs.JobMeaning.{so_far, starts}
use Rattle.step_core.proofs.Starts.{setup_of, starts_begin, job_report}
use Rattle.program_stretches.specs.SuperstepStart.{SuperstepStartValue, live_of}
use Rattle.program_stretches.specs.LinesValue.{LinesValue}
use Rattle.program_stretches.specs.Reached.{IsReached, HasRunOn}
use Rattle.program_stretches.specs.StretchesValue.{state_with}
use Rattle.program_stretches.specs.Closing.{HasLeft}
use Rattle.program_stretches.proofs.RunsSoFar.{last_same}
use Rattle.job_stream.specs.Streamed.{IsPiece, IsRest}
use Rattle.job_stream.specs.Running.{IsRunOf, IsGivenAfter, job_reading}

-- ---- each state of a job's run is the job's

module _ (p : Program) (limit : ℕ) (history : List (List (Entry job.Task))) (le : length history ≤ limit)
    (entered : (n : ℕ) → n < length history
    → IsEntered job_frame (JobMay p.plans) (gm.so_far (says_by job_frame 4096 history) p.arrays (starts p) limit n)
    (get_or history n [])) where
  abbrev n : ℕ
  n = length history

  abbrev by_history : ℕ → ℕ → State
  by_history l m = gm.so_far (says_by job_frame 4096 history) p.arrays (starts p) l m

  shorter : (m : ℕ) → m ≤ n → by_history n m ≡ by_history limit m
  shorter m lm = so_far_shorter job_frame 4096 (says_by job_frame 4096 history) p.arrays (starts p) limit n m le lm

  same_within : (s : Status) → gm.status n (by_history n n) ≡ Some s → (m : ℕ) → m ≤ n → by_history limit m ≡ so_far p limit m
  same_within s e m lm =
      let st = by_history n n in
      let run : HasRun (setup_of p n)
      (record { prints = st.prints; records = st.records; arrays = st.arrays; status = s }) (living_after s st.live) =
      record {
        history = history;
        entered =
            λ k lt. subst (λ (x : State). IsEntered job_frame (JobMay p.plans) x (get_or history k []))
            (sym (shorter k (omega (arith, lt)))) (entered k lt);
        ended = e;
        report = ap (gm.report_with st) e;
        at_end = refl;
      } in
      sym (shorter m lm)
      ∙ so_far_same job_frame (JobMay p.plans) 4096 (job.segment_of p.plans) (λ t arrays step g q. q) p.arrays (starts p) n (starts_begin p)
      (record { prints = st.prints; records = st.records; arrays = st.arrays; status = s }) (living_after s st.live) run m lm
      ∙ so_far_shorter job_frame 4096 (job_says p.plans) p.arrays (starts p) limit n m le lm

  pub same_states : (m : ℕ) → m ≤ n → by_history limit m ≡ so_far p limit m
  same_states m lm = by (gm.status n (by_history n n)) refl
    where
      by : (o : Option Status) → gm.status n (by_history n n) ≡ o → by_history limit m ≡ so_far p limit m
      by None e = absurd (ends_in_time (says_by job_frame 4096 history) p.arrays (starts p) n e)
      by (Some s) e = same_within s e m lm

-- ---- what is given away

abbrev Reached : JobValue → ℕ → List (List ℕ × List ℤ) → List job.Task → ℕ → ℕ → State → Type 0
Reached j most arrays tasks limit given st =
    IsReached (record { frame = job_frame; may = JobMay (plans j.bodies); most = most; arrays = arrays; tasks = tasks; limit = limit }) given st

-- a state that was reached, and what was printed and recorded since the last was given away
piece_at : (j : JobValue) (limit given : ℕ) (st : State) (l : LinesValue) → Reached j 4096 j.arrays (starts (program_of j)) limit given st
    → st.fault ≡ None
    → l.first ≡ given → l.next ≡ st.step → l.prints ≡ st.prints → l.records ≡ st.records → l.next ≤ limit → IsPiece (program_of j) limit l
piece_at j limit given st l h calm first next prints records le =
    let p = program_of j in
    let k : length h.history ≡ l.next = h.count calm ∙ sym next in
    let same = same_states p limit h.history (omega (arith, k, le)) h.entered in
    let now = same (length h.history) (omega arith) in
    let early = same given h.within in
    let within = h.within in
    let at : so_far p limit l.next ≡ so_far p limit (length h.history) = ap (so_far p limit) (sym k) in
    record {
      order = omega (arith, k, within, first);
      prints =
          ap (λ x. x.prints) at ∙ sym (ap (λ (x : State). x.prints) now) ∙ sym (ap (λ (x : State). x.prints) h.state)
          ∙ (λ i. (early i).prints ++ sym prints i) ∙ ap (λ (m : ℕ). (so_far p limit m).prints ++ l.prints) (sym first);
      records =
          ap (λ x. x.records) at ∙ sym (ap (λ (x : State). x.records) now) ∙ sym (ap (λ (x : State). x.records) h.state)
          ∙ (λ i. (early i).records ++ sym records i) ∙ ap (λ (m : ℕ). (so_far p limit m).records ++ l.records) (sym first);
    }

-- the start of the first superstep of a log that went on
first_same : (a b : SuperstepStartValue JobProgram TaskValue) (since more : List (SuperstepStartValue JobProgram TaskValue))
    (log earlier : List (SuperstepStartValue JobProgram TaskValue))
    → WasBefore earlier log → earlier ≡ since ++ a ∷ [] → log ≡ more ++ b ∷ [] → b ≡ a
first_same a b since more log earlier w e f =
    last_same job_reading more (w.since ++ since) b a
    (sym f ∙ w.is ∙ ap (λ (l : List (SuperstepStartValue JobProgram TaskValue)). w.since ++ l) e
    ∙ sym (append_assoc w.since since (a ∷ [])))

pub given_piece : (j : JobValue) (limit : ℕ) (log : List (SuperstepStartValue JobProgram TaskValue)) (l : LinesValue) → IsRunOf j limit log
    → IsGivenAfter job_reading log l → l.next ≤ limit
    → IsPiece (program_of j) limit l
given_piece j limit log l r h le =
    let v = h.run in
    let c = h.given.run in
    let b = c.after.begun in
    let same : b.first ≡ r.first = first_same r.first b.first r.since b.since v.log log h.since r.begun b.is in
    let is_job : v.program.job.now ≡ j =
    ap (λ q. q.job.now) b.program ∙ ap (λ (o : SuperstepStartValue JobProgram TaskValue). o.program.job.now) same ∙ r.job in
    let most : v.most ≡ 4096 = b.most ∙ ap (λ (o : SuperstepStartValue JobProgram TaskValue). o.most) same ∙ r.most in
    let to : v.limit ≡ limit = b.limit ∙ ap (λ (o : SuperstepStartValue JobProgram TaskValue). o.limit) same ∙ r.limit_is in
    let arrays : b.first.arrays ≡ j.arrays = ap (λ (o : SuperstepStartValue JobProgram TaskValue). o.arrays) same ∙ r.arrays in
    let tasks : map (task_of (plans j.bodies)) (live_of b.first) ≡ starts (program_of j) =
    ap (λ (o : SuperstepStartValue JobProgram TaskValue). map (task_of (plans j.bodies)) (live_of o)) same ∙ r.tasks in
    let st = state_with v c.live in
    let reached : Reached j 4096 j.arrays (starts (program_of j)) limit v.given st =
    subst (λ (ts : List job.Task). Reached j 4096 j.arrays ts limit v.given st) tasks
    (subst (λ (xs : List (List ℕ × List ℤ)). Reached j 4096 xs (map (task_of (plans j.bodies)) (live_of b.first)) limit v.given st) arrays
    (subst (λ (n : ℕ). Reached j n b.first.arrays (map (task_of (plans j.bodies)) (live_of b.first)) limit v.given st) most
    (subst (λ (n : ℕ). Reached j v.most b.first.arrays (map (task_of (plans j.bodies)) (live_of b.first)) n v.given st) to
    (subst (λ (x : JobValue). Reached x v.most b.first.arrays (map (task_of (plans x.bodies)) (live_of b.first)) v.limit v.given st) is_job c.after.reached)))) in
    piece_at j limit v.given st l reached h.calm h.given.first h.given.next h.given.prints h.given.records le

-- ---- what a run leaves

abbrev RunOn : JobValue → ℕ → List (List ℕ × List ℤ) → List job.Task → ℕ → ℕ → ReportValue → List job.Task → Type 0
RunOn j most arrays tasks limit given outcome living =
    HasRunOn (record { frame = job_frame; may = JobMay (plans j.bodies); most = most; arrays = arrays; tasks = tasks; limit = limit })
    given outcome living

rest_of_run : (j : JobValue) (limit given : ℕ) (outcome : ReportValue) (living : List job.Task)
    → RunOn j 4096 j.arrays (starts (program_of j)) limit given outcome living
    → IsRest (program_of j) limit given outcome
rest_of_run j limit given outcome living h =
    let p = program_of j in
    let early =
    so_far_same job_frame (JobMay p.plans) 4096 (job.segment_of p.plans) (λ t arrays step g q. q) p.arrays (starts p) limit (starts_begin p)
    h.whole living h.run given h.within in
    record {
      whole = h.whole;
      report = job_report p limit h.whole living h.run;
      prints = ap (λ (x : ReportValue). x.prints) h.rest ∙ (λ i. (early i).prints ++ outcome.prints);
      records = ap (λ (x : ReportValue). x.records) h.rest ∙ (λ i. (early i).records ++ outcome.records);
      arrays = ap (λ (x : ReportValue). x.arrays) h.rest;
      status = ap (λ (x : ReportValue). x.status) h.rest;
    }

pub left_rest : (j : JobValue) (limit given : ℕ) (earlier log : List (SuperstepStartValue JobProgram TaskValue)) (outcome : ReportValue)
    (living : List TaskValue)
    → IsRunOf j limit earlier → WasBefore earlier log → HasLeft job_reading log given outcome living
    → IsRest (program_of j) limit given outcome
left_rest j limit given earlier log outcome living r w h =
    let same : h.first ≡ r.first = first_same r.first h.first r.since h.since log earlier w r.begun h.begun in
    let o = h.first in
    let is_job : o.program.job.now ≡ j = ap (λ (x : SuperstepStartValue JobProgram TaskValue). x.program.job.now) same ∙ r.job in
    let most : o.most ≡ 4096 = ap (λ (x : SuperstepStartValue JobProgram TaskValue). x.most) same ∙ r.most in
    let to : o.limit ≡ limit = ap (λ (x : SuperstepStartValue JobProgram TaskValue). x.limit) same ∙ r.limit_is in
    let arrays : o.arrays ≡ j.arrays = ap (λ (x : SuperstepStartValue JobProgram TaskValue). x.arrays) same ∙ r.arrays in
    let tasks : map (task_of (plans j.bodies)) (live_of o) ≡ starts (program_of j) =
    ap (λ (x : SuperstepStartValue JobProgram TaskValue). map (task_of (plans j.bodies)) (live_of x)) same ∙ r.tasks in
    let live = map (task_of (plans j.bodies)) living in
    rest_of_run j limit given outcome live
    (subst (λ (ts : List job.Task). RunOn j 4096 j.arrays ts limit given outcome live) tasks
    (subst (λ (xs : List (List ℕ × List ℤ)). RunOn j 4096 xs (map (task_of (plans j.bodies)) (live_of o)) limit given outcome live) arrays
    (subst (λ (n : ℕ). RunOn j n o.arrays (map (task_of (plans j.bodies)) (live_of o)) limit given outcome live) most
    (subst (λ (n : ℕ). RunOn j o.most o.arrays (map (task_of (plans j.bodies)) (live_of o)) n given outcome live) to
    (subst (λ (x : JobValue). RunOn x o.most o.arrays (map (task_of (plans x.bodies)) (live_of o)) o.limit given outcome (map (task_of (plans x.bodies)) living)) is_job h.run)))))
