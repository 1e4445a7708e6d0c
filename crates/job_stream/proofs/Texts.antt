-- Texts of reports, superstep by superstep.
use Rattle.std.proofs.Common.{◌≡◌, ℕ, zero, suc, ◌+◌, ◌-◌, ◌≤◌, ◌<◌, Bool, true, false, nat_le, List, [], ◌∷◌, ◌++◌, map, length, Option, Some, None, refl, sym, ap, ◌∙◌, subst, arith, append_assoc, append-nil}
use Rattle.std.specs.Prelude.{ℤ, if◌then◌else◌, ◌==◌}
use Rattle.std.specs.List.{flat_map}
use Rattle.std.proofs.lemmas.List.{length-append}
use Rattle.std.proofs.lemmas.Bool.Decides.{nat_tests}
use Rattle.phase_records.specs.declared.record.PhaseRecord.{PhaseRecord}
use Rattle.phase_records.specs.PrintValue.{PrintValue}
use Rattle.phase_records.specs.ReportValue.{ReportValue}
use Rattle.phase_records.specs.Status.{Status}
use Rattle.phase_records.specs.ReportText.{print_line, record_line, array_line, status_line, front_of, rest_of, steps_text, report_text}
use Rattle.phase_records.specs.ReportLaws.{AreFrom, AreWithin}
use Rattle.task_lang.specs.Meaning.{Segment}
use Rattle.step_core.specs.Program.{Program}
use Rattle.step_core.specs.Superstep.{State, superstep, segments, fault_in, closed, job_says}
use Rattle.programs.specs.Superstep.{prints_of, print_of, record_of}
use Rattle.step_core.specs.JobMeaning.{so_far, report_of, starts}
use Rattle.programs.specs.Supersteps.{status, unless_ended, report_with}
use Rattle.programs.proofs.Runs.{ended_stays, ends_in_time}
use Rattle.job_stream.specs.Streamed.{lines_of, IsRest}

-- ---- the lines of supersteps after those of others

front_none : (n m last : ℕ) (qs : List PrintValue) → n < m → AreWithin m last qs → front_of n qs ≡ []
front_none n m last [] lt h = refl
front_none n m last (q ∷ qs) lt h =
    let b : (q.step == n) ≡ false = let le = h.0 in grind arith in
    ap (λ c. if c then q ∷ front_of n qs else []) b

rest_none : (n m last : ℕ) (qs : List PrintValue) → n < m → AreWithin m last qs → rest_of n qs ≡ qs
rest_none n m last [] lt h = refl
rest_none n m last (q ∷ qs) lt h =
    let b : (q.step == n) ≡ false = let le = h.0 in grind arith in
    ap (λ c. if c then rest_of n qs else q ∷ qs) b

front_append : (n : ℕ) (ps qs : List PrintValue) → front_of n qs ≡ [] → front_of n (ps ++ qs) ≡ front_of n ps
front_append n [] qs e = e
front_append n (p ∷ ps) qs e = by (p.step == n) (front_append n ps qs e)
  where
    by : (b : Bool) → front_of n (ps ++ qs) ≡ front_of n ps
        → (if b then p ∷ front_of n (ps ++ qs) else []) ≡ (if b then p ∷ front_of n ps else [])
    by true more = ap (λ xs. p ∷ xs) more
    by false more = refl

rest_append : (n : ℕ) (ps qs : List PrintValue) → rest_of n qs ≡ qs → rest_of n (ps ++ qs) ≡ rest_of n ps ++ qs
rest_append n [] qs e = e
rest_append n (p ∷ ps) qs e = by (p.step == n) (rest_append n ps qs e)
  where
    by : (b : Bool) → rest_of n (ps ++ qs) ≡ rest_of n ps ++ qs
        → (if b then rest_of n (ps ++ qs) else p ∷ (ps ++ qs)) ≡ (if b then rest_of n ps else p ∷ ps) ++ qs
    by true more = more
    by false more = refl

rest_within : (n last : ℕ) (ps : List PrintValue) → AreWithin n last ps → AreWithin (suc n) last (rest_of n ps)
rest_within n last [] h = tt
rest_within n last (p ∷ ps) h = by (p.step == n) refl (λ e. rest_within n last ps (subst (λ k. AreWithin k last ps) e h.2))
  where
    by : (b : Bool) → (p.step == n) ≡ b → (p.step ≡ n → AreWithin (suc n) last (rest_of n ps))
        → AreWithin (suc n) last (if b then rest_of n ps else p ∷ ps)
    by true e more = let s : p.step ≡ n = grind arith in more s
    by false e more = let le = h.0 in let lt : suc n ≤ p.step = grind arith in (lt, h.1, h.2)

pub steps_later : (n last : ℕ) (ps qs : List PrintValue) (rs ss : List PhaseRecord) → AreFrom n rs → AreWithin n (n + length rs) ps
    → AreWithin (n + length rs) last qs
    → steps_text (ps ++ qs) (rs ++ ss) ≡ steps_text ps rs ++ steps_text qs ss
steps_later n last [] qs [] ss f w l = refl
steps_later n last (p ∷ ps) qs [] ss f w l = let a : n ≤ p.step = w.0 in let b : p.step < n + 0 = w.1 in absurd (omega (arith, a, b))
steps_later n last ps qs (r ∷ rs) ss f w l =
    let up : n + suc (length rs) ≡ suc n + length rs = omega arith in
    let lt : n < n + suc (length rs) = omega arith in
    let none = front_none n (n + suc (length rs)) last qs lt l in
    let rest = rest_none n (n + suc (length rs)) last qs lt l in
    let within : AreWithin (suc n) (suc n + length rs) (rest_of n ps) =
    subst (λ k. AreWithin (suc n) k (rest_of n ps)) up (rest_within n (n + suc (length rs)) ps w) in
    let more = steps_later (suc n) last (rest_of n ps) qs rs ss f.1 within (subst (λ k. AreWithin k last qs) up l) in
    subst
    (λ k. flat_map print_line (front_of k (ps ++ qs)) ++ record_line r ++ steps_text (rest_of k (ps ++ qs)) (rs ++ ss)
    ≡ (flat_map print_line (front_of k ps) ++ record_line r ++ steps_text (rest_of k ps) rs) ++ steps_text qs ss)
    (sym f.0)
    ((λ i. flat_map print_line (front_append n ps qs none i) ++ record_line r ++ steps_text (rest_append n ps qs rest i) (rs ++ ss))
    ∙ ap (λ (t : List ℕ). flat_map print_line (front_of n ps) ++ record_line r ++ t) more
    ∙ sym (append_assoc (flat_map print_line (front_of n ps) ++ record_line r) (steps_text (rest_of n ps) rs) (steps_text qs ss)))

-- ---- what later supersteps print and record

abbrev AllAt : ℕ → List PrintValue → Type 0
AllAt step [] = Unit {0}
AllAt step (p ∷ ps) = (p.step ≡ step) × AllAt step ps

all_append : (step : ℕ) (ps qs : List PrintValue) → AllAt step ps → AllAt step qs → AllAt step (ps ++ qs)
all_append step [] qs a b = b
all_append step (p ∷ ps) qs a b = (a.0, all_append step ps qs a.1 b)

all_mapped : (step : ℕ) (path : List ℕ) (values : List ℤ) → AllAt step (map (print_of step path) values)
all_mapped step path [] = tt
all_mapped step path (v ∷ vs) = (refl, all_mapped step path vs)

all_printed : (step : ℕ) (ss : List (List ℕ × Segment)) → AllAt step (prints_of step ss)
all_printed step [] = tt
all_printed step (s ∷ ss) =
    all_append step (map (print_of step s.0) s.1.prints) (prints_of step ss) (all_mapped step s.0 s.1.prints) (all_printed step ss)

within_at : (first step : ℕ) (ps : List PrintValue) → first ≤ step → AllAt step ps → AreWithin first (step + 1) ps
within_at first step [] le a = tt
within_at first step (p ∷ ps) le a =
    let e : p.step ≡ step = a.0 in
    let low : first ≤ p.step = omega arith in
    let high : p.step < step + 1 = omega arith in
    let same : p.step ≤ step = omega arith in
    (low, high, within_at p.step step ps same a.1)

within_more : (first step : ℕ) (ps qs : List PrintValue) → first ≤ step → AreWithin first step ps → AllAt step qs
    → AreWithin first (step + 1) (ps ++ qs)
within_more first step [] qs le w a = within_at first step qs le a
within_more first step (p ∷ ps) qs le w a =
    let below : p.step < step = w.1 in
    let high : p.step < step + 1 = omega arith in
    let same : p.step ≤ step = omega arith in
    (w.0, high, within_more p.step step ps qs same w.2 a)

from_more : (n : ℕ) (rs : List PhaseRecord) (r : PhaseRecord) → AreFrom n rs → r.phase ≡ n + length rs → AreFrom n (rs ++ r ∷ [])
from_more n [] r a e = let same : r.phase ≡ n = omega arith in (same, tt)
from_more n (x ∷ xs) r a e = let same : r.phase ≡ suc n + length xs = omega arith in (a.0, from_more (suc n) xs r a.1 same)

-- records and prints stand by superstep
record IsOrdered (st : State) : Type 0 where
  pub records : AreFrom 0 st.records
  pub taken : length st.records ≡ st.step
  pub prints : AreWithin 0 st.step st.prints

-- this state comes after that one
record Later (a st : State) : Type 0 where
  pub prints : List PrintValue
  pub records : List PhaseRecord
  pub is_prints : st.prints ≡ a.prints ++ prints
  pub is_records : st.records ≡ a.records ++ records
  pub up : a.step ≤ st.step
  pub within : AreWithin a.step st.step prints

ordered_more : (p : Program) (st : State) → IsOrdered st → (o : Option (ℕ × List ℕ))
    → IsOrdered (closed st (segments p st.arrays st.step st.live) o)
ordered_more p st h (Some f) = record { records = h.records; taken = h.taken; prints = h.prints }
ordered_more p st h None =
    let ss = segments p st.arrays st.step st.live in
    let taken : length st.records ≡ st.step = h.taken in
    let phase : (record_of st.step ss).phase ≡ 0 + length st.records = omega arith in
    let count : length (st.records ++ record_of st.step ss ∷ []) ≡ length st.records + 1 =
    length-append st.records (record_of st.step ss ∷ []) in
    record {
      records = from_more 0 st.records (record_of st.step ss) h.records phase;
      taken = count ∙ ap (λ (k : ℕ). k + 1) taken;
      prints = within_more 0 st.step st.prints (prints_of st.step ss) (omega arith) h.prints (all_printed st.step ss);
    }

later_more : (p : Program) (a st : State) → Later a st → (o : Option (ℕ × List ℕ))
    → Later a (closed st (segments p st.arrays st.step st.live) o)
later_more p a st h (Some f) =
    record { prints = h.prints; records = h.records; is_prints = h.is_prints; is_records = h.is_records; up = h.up; within = h.within }
later_more p a st h None =
    let ss = segments p st.arrays st.step st.live in
    let up = h.up in
    record {
      prints = h.prints ++ prints_of st.step ss;
      records = h.records ++ record_of st.step ss ∷ [];
      is_prints =
          ap (λ (ps : List PrintValue). ps ++ prints_of st.step ss) h.is_prints ∙ append_assoc a.prints h.prints (prints_of st.step ss);
      is_records =
          ap (λ (rs : List PhaseRecord). rs ++ record_of st.step ss ∷ []) h.is_records
          ∙ append_assoc a.records h.records (record_of st.step ss ∷ []);
      up = omega (arith, up);
      within = within_more a.step st.step h.prints (prints_of st.step ss) up h.within (all_printed st.step ss);
    }

ordered : (p : Program) (limit n : ℕ) → IsOrdered (so_far p limit n)
ordered p limit zero = record { records = tt; taken = refl; prints = tt }
ordered p limit (suc n) = by (status limit st) (ordered p limit n)
  where
    st : State
    st = so_far p limit n

    by : (o : Option Status) → IsOrdered st → IsOrdered (unless_ended o st (superstep p st))
    by None h = ordered_more p st h (fault_in st.arrays (segments p st.arrays st.step st.live))
    by (Some s) h = h

later_from : (p : Program) (limit a k : ℕ) → Later (so_far p limit a) (so_far p limit (k + a))
later_from p limit a zero =
    let e : a ≡ zero + a = omega arith in
    let st = so_far p limit a in
    subst (λ (n : ℕ). Later st (so_far p limit n)) e
    (record {
      prints = [];
      records = [];
      is_prints = sym (append-nil st.prints);
      is_records = sym (append-nil st.records);
      up = omega arith;
      within = tt;
    })
later_from p limit a (suc k) =
    let e : suc (k + a) ≡ suc k + a = omega arith in
    subst (λ (n : ℕ). Later (so_far p limit a) (so_far p limit n)) e (by (status limit st) (later_from p limit a k))
  where
    st : State
    st = so_far p limit (k + a)

    by : (o : Option Status) → Later (so_far p limit a) st → Later (so_far p limit a) (unless_ended o st (superstep p st))
    by None h = later_more p (so_far p limit a) st h (fault_in st.arrays (segments p st.arrays st.step st.live))
    by (Some s) h = h

later : (p : Program) (limit a b : ℕ) → a ≤ b → Later (so_far p limit a) (so_far p limit b)
later p limit a b le =
    let e : (b - a) + a ≡ b = omega (arith, le) in
    subst (λ (n : ℕ). Later (so_far p limit a) (so_far p limit n)) e (later_from p limit a (b - a))

cancel : {A : Type 0} (xs ys zs : List A) → xs ++ ys ≡ xs ++ zs → ys ≡ zs
cancel [] ys zs e = e
cancel (x ∷ xs) ys zs e = let t : xs ++ ys ≡ xs ++ zs = cc in cancel xs ys zs t

-- ---- the lines of a job, superstep by superstep

-- the lines of later supersteps follow
pub lines_later : (p : Program) (limit a b : ℕ) → a ≤ b → (qs : List PrintValue) (ss : List PhaseRecord)
    → (so_far p limit b).prints ≡ (so_far p limit a).prints ++ qs → (so_far p limit b).records ≡ (so_far p limit a).records ++ ss
    → lines_of p limit b ≡ lines_of p limit a ++ steps_text qs ss
lines_later p limit a b le qs ss ep er =
    let h = later p limit a b le in
    let x = so_far p limit a in
    let y = so_far p limit b in
    let o = ordered p limit a in
    let same : h.prints ≡ qs = cancel x.prints h.prints qs (sym h.is_prints ∙ ep) in
    let count : x.step ≡ 0 + length x.records = let t = o.taken in omega (arith, t) in
    let front : AreWithin 0 (0 + length x.records) x.prints = subst (λ (k : ℕ). AreWithin 0 k x.prints) count o.prints in
    let back : AreWithin (0 + length x.records) y.step qs =
    subst (λ (k : ℕ). AreWithin k y.step qs) count (subst (λ (ps : List PrintValue). AreWithin x.step y.step ps) same h.within) in
    (λ i. steps_text (ep i) (er i)) ∙ steps_later 0 y.step x.prints qs x.records ss o.records front back

-- past the limit nothing more is taken
capped : (p : Program) (limit n : ℕ) → (m : ℕ) × ((m ≤ limit) × (so_far p limit n ≡ so_far p limit m))
capped p limit n = by (nat_le n limit) refl (status limit (so_far p limit limit)) refl
  where
    by : (b : Bool) → nat_le n limit ≡ b → (o : Option Status) → status limit (so_far p limit limit) ≡ o
        → (m : ℕ) × ((m ≤ limit) × (so_far p limit n ≡ so_far p limit m))
    by true e o q = let le : n ≤ limit = grind (arith, nat_tests) in (n, (le, refl))
    by false e None q = absurd (ends_in_time (job_says p.plans) p.arrays (starts p) limit q)
    by false e (Some s) q =
        let lt : limit < n = grind (arith, nat_tests) in
        let back : (n - limit) + limit ≡ n = omega (arith, lt) in (
          limit,
          (omega arith, ap (so_far p limit) (sym back) ∙ ended_stays (job_says p.plans) p.arrays (starts p) limit limit (n - limit) s q),
        )

-- what comes after the lines of some supersteps in the text of what the job leaves
pub record Rest (p : Program) (limit n : ℕ) : Type 0 where
  pub report : ReportValue
  pub is : report_of p limit ≡ Some report
  pub rest : List ℕ
  pub text : report_text report ≡ lines_of p limit n ++ rest

pub some_rest : (p : Program) (limit n : ℕ) → Rest p limit n
some_rest p limit n = by (status limit (so_far p limit limit)) refl
  where
    last : State
    last = so_far p limit limit

    by : (o : Option Status) → status limit last ≡ o → Rest p limit n
    by None e = absurd (ends_in_time (job_says p.plans) p.arrays (starts p) limit e)
    by (Some s) e =
        let c = capped p limit n in
        let h = later p limit c.0 limit c.1.0 in
        let lines = lines_later p limit c.0 limit c.1.0 h.prints h.records h.is_prints h.is_records in
        let first = lines_of p limit c.0 in
        let middle = steps_text h.prints h.records in
        let arrays = flat_map array_line last.arrays in
        record {
          report = record { prints = last.prints; records = last.records; arrays = last.arrays; status = s };
          is = ap (report_with last) e;
          rest = (middle ++ arrays) ++ status_line s;
          text =
              ap (λ (t : List ℕ). (t ++ arrays) ++ status_line s) lines
              ∙ ap (λ (t : List ℕ). t ++ status_line s) (append_assoc first middle arrays)
              ∙ append_assoc first (middle ++ arrays) (status_line s)
              ∙ ap (λ (st : State). steps_text st.prints st.records ++ ((middle ++ arrays) ++ status_line s)) (sym c.1.1);
        }

-- the text of what isn't given away comes after the lines of what is
pub rest_text : (p : Program) (limit n : ℕ) (rest : ReportValue) (h : IsRest p limit n rest)
    → report_text h.whole ≡ lines_of p limit n ++ report_text rest
rest_text p limit n rest h = by (status limit (so_far p limit limit)) h.report
  where
    last : State
    last = so_far p limit limit

    by : (o : Option Status) → report_with last o ≡ Some h.whole → report_text h.whole ≡ lines_of p limit n ++ report_text rest
    by None e = absurd cc
    by (Some s) e =
        let made : ReportValue = record { prints = last.prints; records = last.records; arrays = last.arrays; status = s } in
        let same : made ≡ h.whole = let so : Some made ≡ Some h.whole = e in cc in
        let c = capped p limit n in
        let lines = lines_later p limit c.0 limit c.1.0 rest.prints rest.records
        (ap (λ (r : ReportValue). r.prints) same ∙ h.prints ∙ ap (λ (st : State). st.prints ++ rest.prints) c.1.1)
        (ap (λ (r : ReportValue). r.records) same ∙ h.records ∙ ap (λ (st : State). st.records ++ rest.records) c.1.1) in
        let first = lines_of p limit c.0 in
        let middle = steps_text rest.prints rest.records in
        let arrays = flat_map array_line rest.arrays in
        let end = status_line rest.status in
        ap report_text (sym same)
        ∙ (λ i. (lines i ++ flat_map array_line ((ap (λ (r : ReportValue). r.arrays) same ∙ h.arrays) i))
        ++ status_line ((ap (λ (r : ReportValue). r.status) same ∙ h.status) i))
        ∙ ap (λ (t : List ℕ). t ++ end) (append_assoc first middle arrays)
        ∙ append_assoc first (middle ++ arrays) end
        ∙ ap (λ (st : State). steps_text st.prints st.records ++ ((middle ++ arrays) ++ end)) (sym c.1.1)
