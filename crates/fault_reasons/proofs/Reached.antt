-- The superstep at which a job ends is one that it gets to.
use Rattle.std.proofs.Common.{◌≡◌, ℕ, zero, suc, ◌+◌, ◌≤◌, ◌<◌, Bool, true, false, nat_le, List, [], ◌∷◌, map, Option, Some, None, refl, sym, ap, ◌∙◌, subst, arith}
use Rattle.std.specs.Prelude.{ℤ, if◌then◌else◌}
use Rattle.phase_records.specs.ReportValue.{ReportValue}
use Rattle.phase_records.specs.Status.{Status, Ended, Fault, Limit}
use Rattle.programs.specs.Meaning.{Segment, Says}
use Rattle.programs.specs.Superstep.{State, superstep, closed, segments, fault_in}
use Rattle.programs.specs.Supersteps.{so_far, status, status_of, unless_ended, report_with}
use Rattle.programs.specs.Steps.{ended, live_after}
use Rattle.programs.proofs.Runs.{going_on, goes, stays, ends_in_time}
use Rattle.programs.proofs.Stepped.{so_far_ended}
use Rattle.step_core.specs.Program.{program_of}
use Rattle.step_core.specs.Superstep.{job_says}
use Rattle.step_core.specs.JobMeaning as job
use Rattle.task_code.specs.JobValue.{JobValue}
use Rattle.task_lang.specs.Meaning.{Task}
use Rattle.task_lang.specs.Views.{plans, task_of}
use Rattle.step_core.specs.JobRun.{JobRunValue, HasReached, IsAfter, IsLater}
use Rattle.fault_reasons.specs.Begun.{Begins, GetsTo, is_limit}
use Rattle.fault_reasons.specs.Laws.{EndsAreReached, IsReached}

-- the number that an end names
abbrev number_of : Option Status → ℕ
number_of None = 0
number_of (Some (Ended n)) = n
number_of (Some (Fault c n p)) = n
number_of (Some (Limit n)) = n

module _ {T : Type 0} where
  -- a state that is open within a limit is at the limit of its own step
  pub at_own : (limit n : ℕ) (st : State T) → status limit st ≡ None → st.step ≡ n → status n st ≡ Some (Limit n)
  at_own limit n st h e = by st.fault st.live h
    where
      by : (f : Option (ℕ × List ℕ)) (live : List T) → status_of limit st.step f live ≡ None → status_of n st.step f live ≡ Some (Limit n)
      by (Some f) live h = cc
      by None [] h = cc
      by None (t ∷ ts) h =
          let le : nat_le n st.step ≡ true = grind arith in
          ap (λ (b : Bool). if b then Some (Limit st.step) else None) le ∙ ap (λ (k : ℕ). Some (Limit k)) e

  -- and open within each that is further on
  pub below_own : (limit n : ℕ) (st : State T) → status limit st ≡ None → st.step < n → status n st ≡ None
  below_own limit n st h lt = by st.fault st.live h
    where
      by : (f : Option (ℕ × List ℕ)) (live : List T) → status_of limit st.step f live ≡ None → status_of n st.step f live ≡ None
      by (Some f) live h = cc
      by None [] h = cc
      by None (t ∷ ts) h =
          let le : nat_le n st.step ≡ false = grind arith in
          ap (λ (b : Bool). if b then Some (Limit st.step) else None) le

  -- what a status says of its state
  pub record IsLimit (limit m : ℕ) (st : State T) : Type 0 where
    pub calm : st.fault ≡ None
    pub far : limit ≤ st.step
    pub number : m ≡ st.step

  pub limit_at : (limit m : ℕ) (st : State T) → status limit st ≡ Some (Limit m) → IsLimit limit m st
  limit_at limit m st h = by st.fault st.live refl h
    where
      far : (b : Bool) → nat_le limit st.step ≡ b → (if b then Some (Limit st.step) else None) ≡ Some (Limit m)
          → (limit ≤ st.step) × (m ≡ st.step)
      far true e h = (grind arith, ap number_of (sym h))
      far false e h = cc

      by : (f : Option (ℕ × List ℕ)) (live : List T) → st.fault ≡ f → status_of limit st.step f live ≡ Some (Limit m) → IsLimit limit m st
      by (Some f) live e h = cc
      by None [] e h = cc
      by None (t ∷ ts) e h = let k = far (nat_le limit st.step) refl h in record { calm = e; far = k.0; number = k.1 }

  pub record IsFault (step : ℕ) (st : State T) : Type 0 where
    pub some : st.fault ≡ None → ⊥
    pub number : step ≡ st.step

  pub fault_at : (limit code step : ℕ) (path : List ℕ) (st : State T) → status limit st ≡ Some (Fault code step path) → IsFault step st
  fault_at limit code step path st h = by st.fault st.live refl h
    where
      never : (b : Bool) → (if b then Some (Limit st.step) else None) ≡ Some (Fault code step path) → ⊥
      never true h = cc
      never false h = cc

      by : (f : Option (ℕ × List ℕ)) (live : List T) → st.fault ≡ f → status_of limit st.step f live ≡ Some (Fault code step path)
          → IsFault step st
      by (Some f) live e h = record { some = λ n. let bad : Some f ≡ None = sym e ∙ n in cc; number = ap number_of (sym h) }
      by None [] e h = cc
      by None (t ∷ ts) e h = absurd (never (nat_le limit st.step) h)

module _ {T : Type 0} (w : Says T) (arrays : List (List ℕ × List ℤ)) (tasks : List T) where
  abbrev at : ℕ → ℕ → State T
  at limit n = so_far w arrays tasks limit n

  -- as long as a state is open so are those before it
  open_before : (limit n : ℕ) → status limit (at limit (suc n)) ≡ None → status limit (at limit n) ≡ None
  open_before limit n h = by (status limit (at limit n)) refl
    where
      by : (o : Option Status) → status limit (at limit n) ≡ o → status limit (at limit n) ≡ None
      by None e = e
      by (Some s) e =
          let k = stays w arrays tasks (status limit (at limit n)) s (at limit n) (superstep w (at limit n)) e in
          let bad : Some s ≡ None = sym e ∙ ap (status limit) (sym k) ∙ h in cc

  -- and they are the same within each limit that is no smaller than their number
  pub same_within : (limit more n : ℕ) → status limit (at limit n) ≡ None → n ≤ more → at more n ≡ at limit n
  same_within limit more zero h le = refl
  same_within limit more (suc n) h le =
      let before = open_before limit n h in
      let same = same_within limit more n before (omega (arith, le)) in
      let step : (at limit n).step ≡ n = (going_on w arrays tasks limit n before).step in
      let below : (at limit n).step < more = omega (arith, step, le) in
      let runs : status more (at more n) ≡ None = ap (status more) same ∙ below_own limit more (at limit n) before below in
      goes w arrays tasks (status more (at more n)) (at more n) (superstep w (at more n)) runs ∙ ap (superstep w) same
      ∙ sym (goes w arrays tasks (status limit (at limit n)) (at limit n) (superstep w (at limit n)) before)

  -- a job gets to each superstep that it begins
  pub gets_there : (limit n : ℕ) → status limit (at limit n) ≡ None → status n (at n n) ≡ Some (Limit n)
  gets_there limit n h =
      let le : n ≤ n = omega arith in
      ap (status n) (same_within limit n n h le) ∙ at_own limit n (at limit n) h (going_on w arrays tasks limit n h).step

  -- no superstep counts for two
  step_more : (limit n : ℕ) → (at limit n).step ≤ n → (at limit (suc n)).step ≤ suc n
  step_more limit n before = by (status limit (at limit n))
    where
      one : (st : State T) (ss : List (List ℕ × Segment T)) (f : Option (ℕ × List ℕ)) → (closed w.path st ss f).step ≤ st.step + 1
      one st ss (Some f) = omega arith
      one st ss None = omega arith

      by : (o : Option Status) → (unless_ended o (at limit n) (superstep w (at limit n))).step ≤ suc n
      by (Some s) = omega (arith, before)
      by None =
          let up =
          one (at limit n) (segments w (at limit n).arrays (at limit n).step (at limit n).live)
          (fault_in w.path w.most (at limit n).arrays (segments w (at limit n).arrays (at limit n).step (at limit n).live)) in
          omega (arith, before, up)

  pub step_within : (limit n : ℕ) → (at limit n).step ≤ n
  step_within limit zero = omega arith
  step_within limit (suc n) = step_more limit n (step_within limit n)

  -- the superstep before a fault was begun
  fault_more : (limit code step : ℕ) (path : List ℕ) (n : ℕ)
      → (status limit (at limit n) ≡ Some (Fault code step path) → status limit (at limit step) ≡ None)
      → status limit (at limit (suc n)) ≡ Some (Fault code step path) → status limit (at limit step) ≡ None
  fault_more limit code step path n earlier h = by (status limit (at limit n)) refl
    where
      faults : (st : State T) (ss : List (List ℕ × Segment T)) (f : Option (ℕ × List ℕ)) → ((closed w.path st ss f).fault ≡ None → ⊥)
          → (closed w.path st ss f).step ≡ st.step
      faults st ss (Some f) h = refl
      faults st ss None h = absurd (h refl)

      by : (o : Option Status) → status limit (at limit n) ≡ o → status limit (at limit step) ≡ None
      by (Some s) e =
          let k = stays w arrays tasks (status limit (at limit n)) s (at limit n) (superstep w (at limit n)) e in
          earlier (ap (status limit) (sym k) ∙ h)
      by None e =
          let k = goes w arrays tasks (status limit (at limit n)) (at limit n) (superstep w (at limit n)) e in
          let f = fault_at limit code step path (superstep w (at limit n)) (ap (status limit) (sym k) ∙ h) in
          let same =
          faults (at limit n) (segments w (at limit n).arrays (at limit n).step (at limit n).live)
          (fault_in w.path w.most (at limit n).arrays (segments w (at limit n).arrays (at limit n).step (at limit n).live)) f.some in
          let number : step ≡ n = f.number ∙ same ∙ (going_on w arrays tasks limit n e).step in
          ap (λ (m : ℕ). status limit (at limit m)) number ∙ e

  fault_began : (limit code step : ℕ) (path : List ℕ) (n : ℕ) → status limit (at limit n) ≡ Some (Fault code step path)
      → status limit (at limit step) ≡ None
  fault_began limit code step path zero h = absurd ((fault_at limit code step path (at limit 0) h).some refl)
  fault_began limit code step path (suc n) h = fault_more limit code step path n (λ e. fault_began limit code step path n e) h

  pub fault_reached : (limit code step : ℕ) (path : List ℕ) → status limit (at limit limit) ≡ Some (Fault code step path)
      → status step (at step step) ≡ Some (Limit step)
  fault_reached limit code step path h = gets_there limit step (fault_began limit code step path limit h)

  -- the limit that is named is that of the run
  pub limit_reached : (limit n : ℕ) → status limit (at limit limit) ≡ Some (Limit n) → status n (at n n) ≡ Some (Limit n)
  limit_reached limit n h =
      let k = limit_at limit n (at limit limit) h in
      let within = step_within limit limit in
      let same : n ≡ limit = omega (arith, k.far, k.number, within) in
      ap (λ (m : ℕ). status m (at m m)) same ∙ h

-- a run that was taken to its limit
module _ (j : JobValue) (n : ℕ) (r s : JobRunValue) (begun : IsAfter 0 [] [] r) (same : (r.job ≡ j) × (r.run.limit ≡ n))
    (later : IsLater n r s) where
  there : HasReached n s
  there = let e : 0 + n ≡ n = omega arith in
      subst (λ (k : ℕ). HasReached k s) e (later.reached 0 (record { prints = []; records = []; after = begun }))

  job_is : s.job ≡ j
  job_is = later.job ∙ same.0

  limit_is : s.run.limit ≡ n
  limit_is = later.limit ∙ same.1

  state_is : job.so_far (program_of s.job) s.run.limit n ≡ job.so_far (program_of j) n n
  state_is = λ i. job.so_far (program_of (job_is i)) (limit_is i) n

  -- ends as the job does
  pub ends_so : status n (job.so_far (program_of j) n n) ≡ ended s.run
  ends_so =
      (λ i. status (sym limit_is i) (sym state_is i))
      ∙ so_far_ended (job_says (plans s.job.bodies)) s.job.arrays (job.starts (program_of s.job)) (task_of (plans s.job.bodies)) there.after

  -- and at the limit has the arrays and tasks with which the next superstep begins
  pub begins_so : (m : ℕ) → ended s.run ≡ Some (Limit m) → Begins j n s.run.arrays s.run.tasks
  begins_so m e =
      let st = job.so_far (program_of j) n n in
      let k = limit_at n m st (ends_so ∙ e) in
      let within = step_within (job_says (plans j.bodies)) j.arrays (job.starts (program_of j)) n n in
      let number : m ≡ n = omega (arith, k.far, k.number, within) in
      record {
        there = ends_so ∙ e ∙ ap (λ (i : ℕ). Some (Limit i)) number;
        arrays_are = ap (λ (x : State Task). x.arrays) there.after.state ∙ ap (λ (x : State Task). x.arrays) state_is;
        tasks_are =
            (λ i. map (task_of (plans (sym job_is i).bodies)) s.run.tasks)
            ∙ ap (λ (x : State Task). x.live) there.after.state
            ∙ ap (λ (x : State Task). live_after x.fault x.live) state_is
            ∙ ap (λ (f : Option (ℕ × List ℕ)). live_after f st.live) k.calm;
      }

  -- so it is known from where it stopped whether the job gets there
  pub begins_if : is_limit (ended s.run) ≡ true → Begins j n s.run.arrays s.run.tasks
  begins_if h = by (ended s.run) refl
    where
      by : (o : Option Status) → ended s.run ≡ o → Begins j n s.run.arrays s.run.tasks
      by None e = let bad : false ≡ true = ap is_limit (sym e) ∙ h in cc
      by (Some (Ended m)) e = let bad : false ≡ true = ap is_limit (sym e) ∙ h in cc
      by (Some (Fault c m path)) e = let bad : false ≡ true = ap is_limit (sym e) ∙ h in cc
      by (Some (Limit m)) e = begins_so m e

  pub never_if : is_limit (ended s.run) ≡ false → GetsTo j n → ⊥
  never_if h gets = let bad : false ≡ true = sym h ∙ ap is_limit (sym ends_so ∙ gets) in cc

abbrev left_status : Status → Option ReportValue → Status
left_status s None = s
left_status s (Some r) = r.status

reached_by : (j : JobValue) (limit : ℕ) (s : Status) → status limit (job.so_far (program_of j) limit limit) ≡ Some s → IsReached j s
reached_by j limit (Ended n) e = tt
reached_by j limit (Fault c n path) e = fault_reached (job_says (plans j.bodies)) j.arrays (job.starts (program_of j)) limit c n path e
reached_by j limit (Limit n) e = limit_reached (job_says (plans j.bodies)) j.arrays (job.starts (program_of j)) limit n e

pub ends_reached : EndsAreReached
ends_reached j limit r h = by (status limit (job.so_far (program_of j) limit limit)) refl
  where
    by : (o : Option Status) → status limit (job.so_far (program_of j) limit limit) ≡ o → IsReached j r.status
    by None e = absurd (ends_in_time (job_says (plans j.bodies)) j.arrays (job.starts (program_of j)) limit e)
    by (Some s) e =
        let is : report_with (job.so_far (program_of j) limit limit) (Some s) ≡ Some r =
        ap (report_with (job.so_far (program_of j) limit limit)) (sym e) ∙ h in
        let same : s ≡ r.status = ap (left_status s) is in
        subst (IsReached j) same (reached_by j limit s e)
