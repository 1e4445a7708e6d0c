-- Runs with a watcher, from superstep to superstep, and what they leave.
use Rattle.std.specs.Prelude.{ℤ, ◌⊎◌, if◌then◌else◌, nat_lt, nat_le, Result, Ok, Err, IfOk, IfSome}
use Rattle.std.proofs.Common.{◌≡◌, ◌<◌, ◌≤◌, ◌+◌, ℕ, zero, suc, Bool, true, false, List, [], ◌∷◌, map, length, Option, Some, None, refl, sym, ap, ◌∙◌, subst, arith, inl, inr, ⊎_elim}
use Rattle.std.proofs.lemmas.Bool.Decides.{nat_tests}
use Rattle.std.proofs.lemmas.List.{length-map}
use Rattle.phase_records.specs.ReportValue.{ReportValue}
use Rattle.phase_records.specs.Status.{Status, Ended, Fault, Limit}
use Rattle.programs.specs.Superstep.{State}
use Rattle.programs.specs.History.{OfState, HasRunTo}
use Rattle.program_stretches.specs.Parts.{Reading}
use Rattle.program_stretches.specs.SuperstepStart.{SuperstepStartValue, live_of, setup_of, states_by, Opens, AllOpen}
use Rattle.program_stretches.specs.Reached.{with_before}
use Rattle.program_stretches.specs.StretchesValue.{StretchesValue, status_for, status_in}
use Rattle.program_stretches.specs.Closing.{CountsAs, HasLeftTo, HasLeft}
use Rattle.stretch_queue.proofs.HandedOut.{not_both}
use Rattle.stretch_queue.specs.Hooked.{bare}
use Rattle.stretch_queue.specs.Watched.{AllWent, AllWentBefore, IsOpened, IsWatched, HasLeftWatched, HasLeftKept, LeavesAs}
use Rattle.atomic_table.specs.Seated.{TableId}
use Rattle.ghost_lists.specs.Agreed.{LogValue}

-- what is said of an answer that is there
pub both_left : {L E : Type 0} (r : Result (Option L) E) (F G : L → Type 0) → IfOk r (λ o. IfSome o F) → IfOk r (λ o. IfSome o G)
    → IfOk r (λ o. IfSome o (λ l. F l × G l))
both_left (Ok (Some l)) F G f h = (f, h)
both_left (Ok None) F G f h = tt
both_left (Err e) F G f h = tt

pub left_so : {L E : Type 0} (r : Result (Option L) E) (F G : L → Type 0) → IfOk r (λ o. IfSome o F) → ((l : L) → F l → G l)
    → IfOk r (λ o. IfSome o G)
left_so (Ok (Some l)) F G f k = k l f
left_so (Ok None) F G f k = tt
left_so (Err e) F G f k = tt

module _ {Q S : Type 0} (stops goes : ℕ → List (List ℕ × List ℤ) → ℕ → Type 0) where
  -- A superstep was opened, and the watcher was called unless the run has ended.
  pub watched_opened : (v : StretchesValue Q S) (older : List (SuperstepStartValue Q S)) (stopped : Bool) → IsOpened v older
      → AllWent goes older
      → (stopped ≡ true → (status_in v ≡ None) × stops v.step v.arrays v.count)
      → (stopped ≡ false → status_in v ≡ None → goes v.step v.arrays v.count) → IsWatched stops goes v stopped
  watched_opened v older stopped o went stop go = record {
    went = inr (
      subst (AllWentBefore goes) (sym o.log) went,
      (let l = ap length o.log in let n = o.step in omega (arith, l, n)),
      o.calm,
    );
    running = λ on run. subst (AllWent goes) (sym o.log) (subst3 (go on run), went);
    halted = stop;
  }
    where
      subst3 : goes v.step v.arrays v.count → goes (length older) o.start.arrays (length (live_of o.start))
      subst3 h =
          subst (λ (n : ℕ). goes n o.start.arrays (length (live_of o.start))) (sym o.step)
          (subst (λ xs. goes v.step xs (length (live_of o.start))) (sym o.arrays)
          (subst (λ (n : ℕ). goes v.step v.arrays n) (sym o.tasks) h))

  -- no superstep was opened
  pub watched_kept : (v w : StretchesValue Q S) → IsWatched stops goes v false → status_in v ≡ None → w.log ≡ v.log
      → IsWatched stops goes w false
  watched_kept v w h run log =
      let all = subst (AllWent goes) (sym log) (h.running refl run) in
      record { went = inl all; running = λ on r. all; halted = λ e. absurd (not_both false e refl) }

-- ---- what a run with a watcher leaves

module _ {Q S T : Type 0} (stops goes : ℕ → List (List ℕ × List ℤ) → ℕ → Type 0) (meant : S → T) where
  went_in : (o : SuperstepStartValue Q S) (n : ℕ) (st : State T) → Opens meant o n st → goes n o.arrays (length (live_of o))
      → OfState goes st
  went_in o n st h go =
      let l = ap length h.live ∙ length-map (live_of o) meant in
      subst (λ (k : ℕ). goes k st.arrays (length st.live)) (sym h.step)
      (subst (λ xs. goes n xs (length st.live)) (sym h.arrays)
      (subst (λ (k : ℕ). goes n o.arrays k) (sym l) go))

  -- it let the supersteps of the history begin that are in the log
  pub went_at : (log : List (SuperstepStartValue Q S)) (states : ℕ → State T) → AllOpen meant log states → AllWent goes log → (n : ℕ)
      → n < length log → OfState goes (states n)
  went_at [] states h k n lt = absurd (omega (arith, lt))
  went_at (o ∷ older) states h k n lt = by (nat_lt n (length older)) refl (went_at older states h.1 k.1 n)
    where
      by : (b : Bool) → nat_lt n (length older) ≡ b → (n < length older → OfState goes (states n)) → OfState goes (states n)
      by true e before = before (grind (arith, nat_tests))
      by false e before =
          let le : length older ≤ n = grind (arith, nat_tests) in
          let same : n ≡ length older = omega (arith, le, lt) in
          subst (λ (j : ℕ). OfState goes (states j)) (sym same) (went_in o (length older) (states (length older)) h.0 k.0)

  pub went_at_before : (log : List (SuperstepStartValue Q S)) (states : ℕ → State T) → AllOpen meant log states → AllWentBefore goes log
      → (n : ℕ) → n + 1 < length log → OfState goes (states n)
  went_at_before [] states h k n lt = absurd (omega (arith, lt))
  went_at_before (o ∷ older) states h k n lt = went_at older states h.1 k n (omega (arith, lt))

-- a run that hasn't faulted has taken so many supersteps
counted_as : {Q S : Type 0} (v : StretchesValue Q S) (s : Status) (n : ℕ) → Some s ≡ status_in v → v.fault ≡ None → CountsAs s n
    → n ≡ v.step
counted_as v s n is calm c = by v.fault v.count (λ i. is i) calm
  where
    steps : Status → ℕ
    steps (Fault code step path) = step
    steps (Ended k) = k
    steps (Limit k) = k

    steps_in : Option Status → ℕ
    steps_in None = zero
    steps_in (Some x) = steps x

    is_fault : Status → Bool
    is_fault (Fault code step path) = true
    is_fault (Ended k) = false
    is_fault (Limit k) = false

    fault_there : Option Status → Bool
    fault_there None = false
    fault_there (Some x) = is_fault x

    counts : (x : Status) → is_fault x ≡ false → CountsAs x n → n ≡ steps x
    counts (Fault code step path) e h = cc
    counts (Ended k) e h = h
    counts (Limit k) e h = h

    late : (b : Bool) → Some s ≡ (if b then Some (Limit v.step) else None) → n ≡ v.step
    late true e = counts s (ap fault_there e) c ∙ ap steps_in e
    late false e = cc

    by : (f : Option (ℕ × List ℕ)) (count : ℕ) → Some s ≡ status_for v.limit v.step f count → f ≡ None → n ≡ v.step
    by (Some f) count e none = cc
    by None zero e none = counts s (ap fault_there e) c ∙ ap steps_in e
    by None (suc k) e none = late (nat_le v.limit v.step) e

module _ {Q S T : Type 0} (stops goes : ℕ → List (List ℕ × List ℤ) → ℕ → Type 0) (m : Q → Reading S T) (v : StretchesValue Q S)
    (stopped : Bool) (w : IsWatched stops goes v stopped)
    (limit : SuperstepStartValue Q S → ℕ) (log : List (SuperstepStartValue Q S)) (same : log ≡ v.log) (outcome : ReportValue)
    (tasks : List S) (given : ℕ) (none_given : given ≡ 0) (h : HasLeftTo m limit log given outcome tasks) where
  abbrev states : ℕ → State T
  states = states_by (m h.first.program) h.first.most h.run.run.history h.first (limit h.first)

  whole : h.run.whole ≡ outcome
  whole = h.run.rest ∙ ap (λ (n : ℕ). with_before (states n) outcome) none_given

  -- it let each superstep of the history begin
  went : (v.fault ≡ None → length h.run.run.history ≡ v.step) → (n : ℕ) → n < length h.run.run.history → OfState goes (states n)
  went count n lt =
      let long = h.as_long in
      ⊎_elim
      (λ all. went_at stops goes (m h.first.program).meant log states h.all_open (subst (AllWent goes) (sym same) all) n (omega (arith, lt, long)))
      (λ but.
      let k = count but.2 in
      let l = but.1 in
      let e = ap length same in
      went_at_before stops goes (m h.first.program).meant log states h.all_open (subst (AllWentBefore goes) (sym same) but.0) n
      (omega (arith, lt, k, l, e)))
      w.went

  -- the run up to that limit, if it is the run's own or the watcher stopped it there
  pub left_watched : (v.fault ≡ None → length h.run.run.history ≡ v.step)
      → ((limit h.first ≡ h.first.limit) ⊎ stops (limit h.first) outcome.arrays (length tasks))
      → HasLeftWatched stops goes m log outcome tasks
  left_watched count stop =
      let f = h.first in
      let q = f.program in
      let living = map (m q).meant tasks in
      record {
        first = f;
        since = h.since;
        begun = h.begun;
        run =
            subst
            (λ (r : ReportValue). HasRunTo stops goes (setup_of m f) r living)
            whole
            (record {
              taken = limit f;
              within = h.within;
              run = h.run.run;
              went = went count;
              stopped = ⊎_elim inl
                  (λ x. inr (subst (λ xs. stops (limit f) xs (length living)) (sym (ap (λ (r : ReportValue). r.arrays) whole))
                  (subst (stops (limit f) outcome.arrays) (sym (length-map tasks (m q).meant)) x)))
                  stop;
            });
      }

-- the same of a run that has ended by itself
pub ended_watched : {Q S T : Type 0} (stops goes : ℕ → List (List ℕ × List ℤ) → ℕ → Type 0) (m : Q → Reading S T) (v : StretchesValue Q S)
    (stopped : Bool)
    → IsWatched stops goes v stopped → v.given ≡ 0
    → (log : List (SuperstepStartValue Q S)) → log ≡ v.log → (outcome : ReportValue) → Some outcome.status ≡ status_in v
    → (tasks : List S) (given : ℕ) → given ≡ v.given → HasLeft m log given outcome tasks
    → HasLeftWatched stops goes m log outcome tasks
ended_watched stops goes m v stopped w none log same outcome status tasks given gave h =
    left_watched stops goes m v stopped w (λ o. o.limit) log same outcome tasks given (gave ∙ none) h
    (λ calm. counted_as v outcome.status (length h.run.run.history) status calm h.counted) (inl refl)

-- and of one that its watcher has stopped
pub stopped_watched : {Q S T : Type 0} (stops goes : ℕ → List (List ℕ × List ℤ) → ℕ → Type 0) (m : Q → Reading S T) (v : StretchesValue Q S)
    → IsWatched stops goes v true → v.given ≡ 0
    → (log : List (SuperstepStartValue Q S)) → log ≡ v.log → (outcome : ReportValue) → outcome.status ≡ Limit v.step
    → outcome.arrays ≡ v.arrays → (tasks : List S) → length tasks ≡ v.count
    → (given : ℕ) → given ≡ v.given → HasLeftTo m (λ o. v.step) log given outcome tasks → HasLeftWatched stops goes m log outcome tasks
stopped_watched stops goes m v w none log same outcome status arrays tasks count given gave h =
    left_watched stops goes m v true w (λ o. v.step) log same outcome tasks given (gave ∙ none) h
    (λ calm. subst (λ (s : Status). CountsAs s (length h.run.run.history)) status h.counted)
    (inr (subst (λ xs. stops v.step xs (length tasks)) (sym arrays) (subst (stops v.step v.arrays) (sym count) (w.halted refl).1)))

-- what a run leaves whose watcher has let each superstep begin
pub kept_watched : {Q S T : Type 0} (stops goes : ℕ → List (List ℕ × List ℤ) → ℕ → Type 0) (m : Q → Reading S T) (mark : TableId)
    (w : LogValue (SuperstepStartValue Q S)) (given : ℕ) (outcome : ReportValue) (tasks : List S)
    → HasLeftKept m (λ v stopped. (v.given ≡ 0) × IsWatched stops goes v stopped) mark w given outcome tasks
    → HasLeftWatched stops goes m w.log outcome tasks
kept_watched stops goes m mark w given outcome tasks h = by h.last h.stopped h.keeps h.leaves
  where
    by : (v : StretchesValue _ _) (stopped : Bool) → ((bare v).given ≡ 0) × IsWatched stops goes (bare v) stopped
        → LeavesAs m v stopped w given outcome tasks → HasLeftWatched stops goes m w.log outcome tasks
    by v true k l = stopped_watched stops goes m (bare v) k.1 k.0 w.log l.1 outcome l.5 l.4 tasks l.6 given l.2 l.3
    by v false k l = ended_watched stops goes m (bare v) false k.1 k.0 w.log l.1 outcome l.4 tasks given l.2 l.3
