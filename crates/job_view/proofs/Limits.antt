-- Runs of two limits take the same supersteps, as far as both go.
use Rattle.std.proofs.Common.{◌≡◌, ℕ, zero, suc, ◌+◌, ◌≤◌, ◌<◌, Bool, false, nat_le, List, [], ◌∷◌, Option, Some, None, refl, sym, ap, ◌∙◌, arith}
use Rattle.std.specs.Prelude.{ℤ, if◌then◌else◌}
use Rattle.phase_records.specs.ReportValue.{ReportValue}
use Rattle.phase_records.specs.Status.{Status, Limit}
use Rattle.programs.specs.Meaning.{Segment, Says}
use Rattle.programs.specs.Superstep.{State, superstep, closed, segments, fault_in}
use Rattle.programs.specs.Supersteps.{so_far, status, status_of, unless_ended, report_with}
use Rattle.step_core.specs.JobMeaning as job
use Rattle.step_core.specs.Superstep.{job_says}
use Rattle.job_view.specs.Look.{named}
use Rattle.job_view.specs.Laws.{RowsAreOfRuns}
use Rattle.job_view.specs.Rows.{cells_or_none}

module _ {T : Type 0} where
  -- below two limits a state has ended by the one if it has by the other
  status_same : (a b : ℕ) (st : State T) → st.step < a → st.step < b → status a st ≡ status b st
  status_same a b st x y = by st.fault st.live
    where
      by : (f : Option (ℕ × List ℕ)) (live : List T) → status_of a st.step f live ≡ status_of b st.step f live
      by (Some f) live = refl
      by None [] = refl
      by None (t ∷ ts) =
          let p : nat_le a st.step ≡ false = grind arith in
          let q : nat_le b st.step ≡ false = grind arith in
          ap (λ (c : Bool). if c then Some (Limit st.step) else None) (p ∙ sym q)

  -- a superstep counts for at most one
  one_more : (path : T → List ℕ) (st : State T) (ss : List (List ℕ × Segment T)) (f : Option (ℕ × List ℕ))
      → (closed path st ss f).step ≤ st.step + 1
  one_more path st ss (Some f) = omega arith
  one_more path st ss None = omega arith

  at_most : (o : Option Status) (st next : State T) (n : ℕ) → st.step ≤ n → next.step ≤ st.step + 1 → (unless_ended o st next).step ≤ suc n
  at_most (Some s) st next n h g = omega (arith, h)
  at_most None st next n h g = omega (arith, h, g)

module _ {T : Type 0} (w : Says T) (arrays : List (List ℕ × List ℤ)) (tasks : List T) where
  pub record AreSame (limit less n : ℕ) : Type 0 where
    pub state : so_far w arrays tasks less n ≡ so_far w arrays tasks limit n
    pub step : (so_far w arrays tasks limit n).step ≤ n

  same_more : (limit less n : ℕ) → less ≤ limit → n < less → AreSame limit less n → AreSame limit less (suc n)
  same_more limit less n le lt h =
      let st = so_far w arrays tasks limit n in
      let low = h.step in
      let x : st.step < less = omega (arith, low, lt) in
      let y : st.step < limit = omega (arith, low, lt, le) in
      let both : status less (so_far w arrays tasks less n) ≡ status limit st = ap (status less) h.state ∙ status_same less limit st x y in
      record {
        state = λ i. unless_ended (both i) (h.state i) (superstep w (h.state i));
        step =
            at_most (status limit st) st (superstep w st) n low
            (one_more w.path st (segments w st.arrays st.step st.live) (fault_in w.path w.most st.arrays (segments w st.arrays st.step st.live)));
      }

  pub same_within : (limit less n : ℕ) → less ≤ limit → n ≤ less → AreSame limit less n
  same_within limit less zero le lt = record { state = refl; step = omega arith }
  same_within limit less (suc n) le lt = same_more limit less n le (omega (arith, lt)) (same_within limit less n le (omega (arith, lt)))

abbrev arrays_of : List (List ℕ × List ℤ) → Option ReportValue → List (List ℕ × List ℤ)
arrays_of other None = other
arrays_of other (Some r) = r.arrays

reported_arrays : {T : Type 0} (st : State T) (o : Option Status) (r : ReportValue) → report_with st o ≡ Some r → st.arrays ≡ r.arrays
reported_arrays st None r e = absurd cc
reported_arrays st (Some s) r e = ap (arrays_of st.arrays) e

pub rows_are_of_runs : RowsAreOfRuns
rows_are_of_runs p limit step name r le e =
    let same = same_within (job_says p.plans) p.arrays (job.starts p) limit step step le (omega arith) in
    ap (λ (all : List (List ℕ × List ℤ)). cells_or_none (named name all))
    (ap (λ st. st.arrays) (sym same.state) ∙ reported_arrays (job.so_far p step step) (status step (job.so_far p step step)) r e)
