-- What a report says of its supersteps.
use Rattle.std.proofs.Common.{◌≡◌, ◌≢◌, ◌⊎◌, inl, inr, ⊎_elim, ℕ, zero, suc, ◌+◌, ◌≤◌, ◌<◌, Bool, true, false, cond, nat_lt, List, [], ◌∷◌, ◌++◌, length, map, ℤ, Option, Some, None, refl, sym, ap, ap₂, ◌∙◌, subst, arith}
use Rattle.std.specs.Prelude.{if◌then◌else◌, ◌==◌, sum_by, count_by}
use Rattle.std.specs.List.{flat_map}
use Rattle.std.proofs.lemmas.List.{length-append}
use Rattle.std.proofs.lemmas.List.Sums.{sum_by-cons}
use Rattle.std.proofs.lemmas.Bool.{eq-eqb, ne_eqb, ltb-true, ltb-false}
use Rattle.phase_records.specs.declared.record.PhaseRecord.{PhaseRecord}
use Rattle.phase_records.specs.PrintValue.{PrintValue}
use Rattle.phase_records.specs.ReportValue.{ReportValue}
use Rattle.phase_records.specs.ReportText.{steps_text, array_line, status_line}
use Rattle.phase_records.specs.Status.{Status}
use Rattle.phase_records.specs.ReportLaws.{AreFrom, AreWithin, of_step, each_step}
use Rattle.phase_records.proofs.ReportLawProofs.{each-step-has-its-prints}
use Rattle.task_lang.specs.Meaning.{Task, After, Segment}
use Rattle.programs.specs.Meaning.{Synced, Stopped, Faulted}
use Rattle.step_core.specs.Program.{Program}
use Rattle.step_core.specs.Superstep.{State, superstep, segments, fault_in, closed, next_live, job_says}
use Rattle.programs.specs.Superstep.{ended_by, gone_on, prints_of, print_of, record_of, spawned, stopped, left}
use Rattle.step_core.specs.JobMeaning.{initial, so_far, starts}
use Rattle.programs.specs.Supersteps.{status, report_with}
use Rattle.step_core.specs.Laws.{deed}
use Rattle.programs.proofs.Runs.{goes, stays, going_on}
use Rattle.job_laws.specs.Reports.{IsBySuperstep, ReportsAreBySuperstep, TextsHaveEveryPrint, PrintsAreOfTheirSuperstep, has_stopped, Tells, TellFrom, RecordsTellSupersteps}

one_along : (p : Program) (limit : ℕ) (P : State → Type 0) (n : ℕ) → P (so_far p limit n)
    → (status limit (so_far p limit n) ≡ None → P (so_far p limit n) → P (superstep p (so_far p limit n)))
    → (o : Option Status) → status limit (so_far p limit n) ≡ o → P (so_far p limit (suc n))
one_along p limit P n before next None e =
    subst P
    (sym (goes (job_says p.plans) p.arrays (starts p) (status limit (so_far p limit n)) (so_far p limit n) (superstep p (so_far p limit n)) e))
    (next e before)
one_along p limit P n before next (Some s) e =
    subst P
    (sym (stays (job_says p.plans) p.arrays (starts p) (status limit (so_far p limit n)) s (so_far p limit n) (superstep p (so_far p limit n)) e))
    before

-- what holds of each state of a job, if a superstep of one that goes on keeps it
along : (p : Program) (limit : ℕ) (P : State → Type 0) → P (initial p)
    → ((n : ℕ) → status limit (so_far p limit n) ≡ None → P (so_far p limit n) → P (superstep p (so_far p limit n))) → (n : ℕ)
    → P (so_far p limit n)
along p limit P first next zero = first
along p limit P first next (suc n) = one_along p limit P n (along p limit P first next n) (next n) (status limit (so_far p limit n)) refl

-- a superstep ends the job by a fault, or goes on
by_superstep_of : (P : State → Type 0) (st : State) (ss : List (List ℕ × Segment)) → ((f : ℕ × List ℕ) → P (ended_by st f))
    → P (gone_on st ss (next_live ss))
    → (o : Option (ℕ × List ℕ)) → P (closed st ss o)
by_superstep_of P st ss ends goes_on (Some f) = ends f
by_superstep_of P st ss ends goes_on None = goes_on

-- prints that are all of one superstep
abbrev AllAt : ℕ → List PrintValue → Type 0
AllAt step [] = Unit {0}
AllAt step (p ∷ ps) = (p.step ≡ step) × AllAt step ps

all_append : (step : ℕ) (ps qs : List PrintValue) → AllAt step ps → AllAt step qs → AllAt step (ps ++ qs)
all_append step [] qs a b = b
all_append step (p ∷ ps) qs a b = (a.0, all_append step ps qs a.1 b)

all_mapped : (step : ℕ) (path : List ℕ) (values : List ℤ) → AllAt step (map (print_of step path) values)
all_mapped step path [] = tt
all_mapped step path (v ∷ vs) = (refl, all_mapped step path vs)

all_printed : (step : ℕ) (ss : List (List ℕ × Segment)) → AllAt step (prints_of step ss)
all_printed step [] = tt
all_printed step (s ∷ ss) =
    all_append step (map (print_of step s.0) s.1.prints) (prints_of step ss) (all_mapped step s.0 s.1.prints) (all_printed step ss)

within_at : (first step : ℕ) (ps : List PrintValue) → first ≤ step → AllAt step ps → AreWithin first (step + 1) ps
within_at first step [] le a = tt
within_at first step (p ∷ ps) le a =
    let e : p.step ≡ step = a.0 in
    let low : first ≤ p.step = omega arith in
    let high : p.step < step + 1 = omega arith in
    let same : p.step ≤ step = omega arith in
    (low, high, within_at p.step step ps same a.1)

within_more : (first step : ℕ) (ps qs : List PrintValue) → first ≤ step → AreWithin first step ps → AllAt step qs
    → AreWithin first (step + 1) (ps ++ qs)
within_more first step [] qs le w a = within_at first step qs le a
within_more first step (p ∷ ps) qs le w a =
    let below : p.step < step = w.1 in
    let high : p.step < step + 1 = omega arith in
    let same : p.step ≤ step = omega arith in
    (w.0, high, within_more p.step step ps qs same w.2 a)

from_more : (n : ℕ) (rs : List PhaseRecord) (r : PhaseRecord) → AreFrom n rs → r.phase ≡ n + length rs → AreFrom n (rs ++ r ∷ [])
from_more n [] r a e = let same : r.phase ≡ n = omega arith in (same, tt)
from_more n (x ∷ xs) r a e = let same : r.phase ≡ suc n + length xs = omega arith in (a.0, from_more (suc n) xs r a.1 same)

one_more : (p : Program) (st : State) → IsBySuperstep st → IsBySuperstep (superstep p st)
one_more p st h =
    let ss = segments p st.arrays st.step st.live in
    by_superstep_of IsBySuperstep st ss
    (λ f. record { records = h.records; taken = h.taken; prints = h.prints })
    (let taken : length st.records ≡ st.step = h.taken in
    let phase : (record_of st.step ss).phase ≡ 0 + length st.records = omega arith in
    let count : length (st.records ++ record_of st.step ss ∷ []) ≡ length st.records + 1 =
    length-append st.records (record_of st.step ss ∷ []) in
    let least : 0 ≤ st.step = omega arith in
    record {
      records = from_more 0 st.records (record_of st.step ss) h.records phase;
      taken = count ∙ ap (λ (k : ℕ). k + 1) taken;
      prints = within_more 0 st.step st.prints (prints_of st.step ss) least h.prints (all_printed st.step ss);
    })
    (fault_in st.arrays ss)

opened : (p : Program) → IsBySuperstep (initial p)
opened p = record { records = tt; taken = refl; prints = tt }

pub by_superstep : ReportsAreBySuperstep
by_superstep p limit n = along p limit IsBySuperstep (opened p) (λ k going h. one_more p (so_far p limit k) h) n

pub every_print : TextsHaveEveryPrint
every_print p limit r h = by (status limit (so_far p limit limit)) h
  where
    st : State
    st = so_far p limit limit

    good : IsBySuperstep st
    good = by_superstep p limit limit

    by : (o : Option Status) → report_with st o ≡ Some r
        → steps_text r.prints r.records ++ flat_map array_line r.arrays ++ status_line r.status
        ≡ each_step r.prints r.records ++ flat_map array_line r.arrays ++ status_line r.status
    by None e = let bad : ◌≡◌ {A = Option ReportValue} None (Some r) = e in absurd cc
    by (Some s) e =
        let made : ReportValue = record { prints = st.prints; records = st.records; arrays = st.arrays; status = s } in
        let same : made ≡ r = let so : Some made ≡ Some r = e in cc in
        let within : AreWithin 0 (0 + length st.records) st.prints =
        subst (λ (k : ℕ). AreWithin 0 k st.prints) (let e : st.step ≡ 0 + length st.records = (let t = good.taken in omega arith) in e)
        good.prints in
        let text : steps_text st.prints st.records ≡ each_step st.prints st.records =
        each-step-has-its-prints 0 st.records st.prints good.records within in
        let P : ReportValue → Type 0 = λ x. steps_text x.prints x.records ≡ each_step x.prints x.records in
        ap (λ (l : List ℕ). l ++ flat_map array_line r.arrays ++ status_line r.status) (subst P same text)

one_append : (k : ℕ) (p : PrintValue) (ps qs : List PrintValue) → of_step k (ps ++ qs) ≡ of_step k ps ++ of_step k qs
    → (b : Bool)
    → (if b then p ∷ of_step k (ps ++ qs) else of_step k (ps ++ qs)) ≡ (if b then p ∷ of_step k ps else of_step k ps) ++ of_step k qs
one_append k p ps qs more true = ap (λ (l : List PrintValue). p ∷ l) more
one_append k p ps qs more false = more

-- the prints of a step among those of others
step_append : (k : ℕ) (ps qs : List PrintValue) → of_step k (ps ++ qs) ≡ of_step k ps ++ of_step k qs
step_append k [] qs = refl
step_append k (p ∷ ps) qs = one_append k p ps qs (step_append k ps qs) (p.step == k)

all_of_step : (k : ℕ) (ps : List PrintValue) → AllAt k ps → of_step k ps ≡ ps
all_of_step k [] a = refl
all_of_step k (p ∷ ps) a =
    ap (λ (b : Bool). cond b (p ∷ of_step k ps) (of_step k ps)) (eq-eqb p.step k a.0)
    ∙ ap (λ (l : List PrintValue). p ∷ l) (all_of_step k ps a.1)

none_at : (k step : ℕ) (ps : List PrintValue) → step ≢ k → AllAt step ps → of_step k ps ≡ []
none_at k step [] n a = refl
none_at k step (p ∷ ps) n a =
    ap (λ (b : Bool). cond b (p ∷ of_step k ps) (of_step k ps)) (ne_eqb p.step k (λ e. n (sym a.0 ∙ e))) ∙ none_at k step ps n a.1

none_within : (k first : ℕ) (ps : List PrintValue) → AreWithin first k ps → of_step k ps ≡ []
none_within k first [] w = refl
none_within k first (p ∷ ps) w =
    let below : p.step < k = w.1 in
    ap (λ (b : Bool). cond b (p ∷ of_step k ps) (of_step k ps)) (ne_eqb p.step k (λ (e : p.step ≡ k). absurd (omega arith)))
    ∙ none_within k p.step ps w.2

append_nil : (ps : List PrintValue) → ps ++ [] ≡ ps
append_nil [] = refl
append_nil (p ∷ ps) = ap (λ (l : List PrintValue). p ∷ l) (append_nil ps)

split_below : (a b : ℕ) → a < b + 1 → (x : Bool) → nat_lt a b ≡ x → (a ≡ b) ⊎ (a < b)
split_below a b lt true e = inr (ltb-true _ _ e)
split_below a b lt false e = let le = ltb-false _ _ e in inl (omega arith)

-- what is below the number that follows is that number or below it
either : (a b : ℕ) → a < b + 1 → (a ≡ b) ⊎ (a < b)
either a b lt = split_below a b lt (nat_lt a b) refl

-- each superstep's prints in a state of this job
abbrev PrintsSo : Program → ℕ → State → Type 0
PrintsSo p limit st =
    (k : ℕ) → k < st.step → of_step k st.prints ≡ prints_of k (segments p (so_far p limit k).arrays k (so_far p limit k).live)

prints_more : (p : Program) (limit n : ℕ) → status limit (so_far p limit n) ≡ None → PrintsSo p limit (so_far p limit n)
    → PrintsSo p limit (superstep p (so_far p limit n))
prints_more p limit n going h =
    by_superstep_of (PrintsSo p limit) (so_far p limit n) ss (λ f. h) went (fault_in st.arrays ss)
  where
    st : State
    st = so_far p limit n

    ss : List (List ℕ × Segment)
    ss = segments p st.arrays st.step st.live

    at_n : st.step ≡ n
    at_n = (going_on (job_says p.plans) p.arrays (starts p) limit n going).step

    own : (k : ℕ) → k ≡ st.step
        → of_step k (prints_of st.step ss) ≡ prints_of k (segments p (so_far p limit k).arrays k (so_far p limit k).live)
    own k e =
        let P : ℕ → Type 0 =
        λ x. of_step x (prints_of st.step ss) ≡ prints_of x (segments p (so_far p limit x).arrays x (so_far p limit x).live) in
        let here : of_step st.step (prints_of st.step ss) ≡ prints_of st.step ss =
        all_of_step st.step (prints_of st.step ss) (all_printed st.step ss) in
        let same : so_far p limit st.step ≡ st = ap (so_far p limit) at_n in
        let done : P st.step = here ∙ ap (λ (x : State). prints_of st.step (segments p x.arrays st.step x.live)) (sym same) in
        subst P (sym e) done

    went : PrintsSo p limit (gone_on st ss (next_live ss))
    went k lt = ⊎_elim
        (λ (e : k ≡ st.step).
        let none : of_step k st.prints ≡ [] =
        subst (λ (x : ℕ). of_step x st.prints ≡ []) (sym e) (none_within st.step 0 st.prints (by_superstep p limit n).prints) in
        step_append k st.prints (prints_of st.step ss) ∙ ap (λ (l : List PrintValue). l ++ of_step k (prints_of st.step ss)) none ∙ own k e)
        (λ (less : k < st.step).
        let none : of_step k (prints_of st.step ss) ≡ [] =
        none_at k st.step (prints_of st.step ss) (λ (e : st.step ≡ k). absurd (omega arith)) (all_printed st.step ss) in
        step_append k st.prints (prints_of st.step ss) ∙ ap (λ (l : List PrintValue). of_step k st.prints ++ l) none
        ∙ append_nil (of_step k st.prints) ∙ h k less)
        (either k st.step lt)

pub prints_of_each : PrintsAreOfTheirSuperstep
prints_of_each p limit n k lt =
    along p limit (PrintsSo p limit) (λ j less. absurd (omega arith)) (λ m going h. prints_more p limit m going h) n k lt

-- a record by the segments, and by the tasks
abbrev bit : Bool → ℕ
bit b = cond {A = ℕ} b 1 0

stopped_is : (a : After) → stopped a ≡ bit (has_stopped a)
stopped_is (Synced t) = refl
stopped_is Stopped = refl
stopped_is (Faulted f) = refl

length_is : (p : Program) (st : State) (ts : List Task) → length (segments p st.arrays st.step ts) ≡ length ts
length_is p st [] = refl
length_is p st (t ∷ ts) = ap (λ (k : ℕ). suc k) (length_is p st ts)

spawned_is : (p : Program) (st : State) (ts : List Task)
    → spawned (segments p st.arrays st.step ts) ≡ sum_by (λ t. length (deed p st t).spawns) ts
spawned_is p st [] = refl
spawned_is p st (t ∷ ts) =
    ap (λ (k : ℕ). length (deed p st t).spawns + k) (spawned_is p st ts) ∙ sym (sum_by-cons (λ x. length (deed p st x).spawns) t ts)

left_is : (p : Program) (st : State) (ts : List Task)
    → left (segments p st.arrays st.step ts) ≡ count_by (λ t. has_stopped (deed p st t).after) ts
left_is p st [] = refl
left_is p st (t ∷ ts) =
    ap₂ (λ (a b : ℕ). a + b) (stopped_is (deed p st t).after) (left_is p st ts)
    ∙ sym (sum_by-cons (λ x. bit (has_stopped (deed p st x).after)) t ts)

tells : (p : Program) (st : State) → Tells p st (record_of st.step (segments p st.arrays st.step st.live))
tells p st = record {
  phase = refl;
  parties = ap (λ (k : ℕ). k + spawned (segments p st.arrays st.step st.live)) (length_is p st st.live);
  spawned = spawned_is p st st.live;
  left = left_is p st st.live;
}

tell_more : (p : Program) (limit k : ℕ) (rs : List PhaseRecord) (r : PhaseRecord) → TellFrom p limit k rs
    → Tells p (so_far p limit (k + length rs)) r
    → TellFrom p limit k (rs ++ r ∷ [])
tell_more p limit k [] r a t = let e : k + 0 ≡ k = omega arith in (subst (λ (x : ℕ). Tells p (so_far p limit x) r) e t, tt)
tell_more p limit k (x ∷ xs) r a t =
    let e : k + suc (length xs) ≡ suc k + length xs = omega arith in
    (a.0, tell_more p limit (suc k) xs r a.1 (subst (λ (y : ℕ). Tells p (so_far p limit y) r) e t))

abbrev RecordsSo : Program → ℕ → State → Type 0
RecordsSo p limit st = TellFrom p limit 0 st.records

records_more : (p : Program) (limit n : ℕ) → status limit (so_far p limit n) ≡ None → RecordsSo p limit (so_far p limit n)
    → RecordsSo p limit (superstep p (so_far p limit n))
records_more p limit n going h =
    by_superstep_of (RecordsSo p limit) (so_far p limit n) ss (λ f. h) (tell_more p limit 0 st.records (record_of st.step ss) h own)
    (fault_in st.arrays ss)
  where
    st : State
    st = so_far p limit n

    ss : List (List ℕ × Segment)
    ss = segments p st.arrays st.step st.live

    at_n : 0 + length st.records ≡ n
    at_n = let taken = (by_superstep p limit n).taken in
        let step = (going_on (job_says p.plans) p.arrays (starts p) limit n going).step in
        omega arith

    own : Tells p (so_far p limit (0 + length st.records)) (record_of st.step ss)
    own = subst (λ (x : ℕ). Tells p (so_far p limit x) (record_of st.step ss)) (sym at_n) (tells p st)

pub records_tell : RecordsTellSupersteps
records_tell p limit n = along p limit (RecordsSo p limit) tt (λ m going h. records_more p limit m going h) n
