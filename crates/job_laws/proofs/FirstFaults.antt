-- The fault that ends a job.
use Rattle.std.proofs.Common.{◌≡◌, ◌⊎◌, inl, inr, ℕ, Bool, true, false, nat_lt, List, [], ◌∷◌, length, map, Option, Some, None, refl, sym, ap, ◌∙◌, subst}
use Rattle.std.specs.Prelude.{if◌then◌else◌}
use Rattle.std.proofs.lemmas.Bool.{ltb-true, ltb-false}
use Rattle.std.specs.Option.{option_map}
use Rattle.superstep_memory.specs.Landing.{first_over}
use Rattle.task_lang.proofs.AllSegments.{faults-have-codes}
use Rattle.task_lang.specs.Meaning.{Task, After, Segment, segment_of}
use Rattle.programs.specs.Meaning.{Synced, Stopped, Faulted}
use Rattle.step_core.specs.Program.{Program}
use Rattle.step_core.specs.Superstep.{State, segments, too_many, closed, next_live}
use Rattle.programs.specs.Superstep.{first_fault, overflow, fault_eight, or_next, or_later, log_of}
use Rattle.job_laws.specs.Reports.{HasNoFault, NoneFaults, IsFirstFault, IsTooMany, IsOverflow, FaultsTellTheFirst}

none_here : (p : Program) (st : State) (t : Task) (ts : List Task)
    → (first_fault (segments p st.arrays st.step ts) ≡ None → NoneFaults p st ts)
    → first_fault (segments p st.arrays st.step (t ∷ ts)) ≡ None → (a : After) → (segment_of p.plans t st.arrays st.step).after ≡ a
    → NoneFaults p st (t ∷ ts)
none_here p st t ts more h (Synced u) e =
    (subst HasNoFault (sym e) tt, more (sym (ap (or_later (first_fault (segments p st.arrays st.step ts)) t.path) e) ∙ h))
none_here p st t ts more h Stopped e =
    (subst HasNoFault (sym e) tt, more (sym (ap (or_later (first_fault (segments p st.arrays st.step ts)) t.path) e) ∙ h))
none_here p st t ts more h (Faulted f) e =
    let bad : Some (f, t.path) ≡ None = sym (ap (or_later (first_fault (segments p st.arrays st.step ts)) t.path) e) ∙ h in absurd cc

-- none of the tasks faults if no fault is found
pub none_faults : (p : Program) (st : State) (ts : List Task) → first_fault (segments p st.arrays st.step ts) ≡ None → NoneFaults p st ts
none_faults p st [] h = tt
none_faults p st (t ∷ ts) h = none_here p st t ts (none_faults p st ts) h (segment_of p.plans t st.arrays st.step).after refl

behind : (p : Program) (st : State) (t : Task) (ts : List Task) (reported : ℕ × List ℕ)
    → HasNoFault (segment_of p.plans t st.arrays st.step).after
    → IsFirstFault p st ts reported → IsFirstFault p st (t ∷ ts) reported
behind p st t ts reported fine r = record {
  front = t ∷ r.front;
  here = r.here;
  back = r.back;
  fault = r.fault;
  whole = ap (λ (l : List Task). t ∷ l) r.whole;
  before = (fine, r.before);
  faults = r.faults;
  code = r.code;
  path = r.path;
}

first_here : (p : Program) (st : State) (t : Task) (ts : List Task) (reported : ℕ × List ℕ)
    → (first_fault (segments p st.arrays st.step ts) ≡ Some reported → IsFirstFault p st ts reported)
    → first_fault (segments p st.arrays st.step (t ∷ ts)) ≡ Some reported
    → (a : After) → (segment_of p.plans t st.arrays st.step).after ≡ a → IsFirstFault p st (t ∷ ts) reported
first_here p st t ts reported more h (Synced u) e =
    behind p st t ts reported (subst HasNoFault (sym e) tt)
    (more (sym (ap (or_later (first_fault (segments p st.arrays st.step ts)) t.path) e) ∙ h))
first_here p st t ts reported more h Stopped e =
    behind p st t ts reported (subst HasNoFault (sym e) tt)
    (more (sym (ap (or_later (first_fault (segments p st.arrays st.step ts)) t.path) e) ∙ h))
first_here p st t ts reported more h (Faulted f) e =
    let same : Some (f, t.path) ≡ Some reported = sym (ap (or_later (first_fault (segments p st.arrays st.step ts)) t.path) e) ∙ h in
    let pair : (f, t.path) ≡ reported = cc in
    let of = faults-have-codes p.plans t st.arrays st.step f e in
    record {
      front = [];
      here = t;
      back = ts;
      fault = of.0;
      whole = refl;
      before = tt;
      faults = e ∙ ap (λ (code : ℕ). Faulted code) of.1;
      code = ap (λ (x : ℕ × List ℕ). x.0) (sym pair) ∙ of.1;
      path = ap (λ (x : ℕ × List ℕ). x.1) (sym pair);
    }

-- the fault that is found is that of the first faulting task
pub first_faults : (p : Program) (st : State) (ts : List Task) (reported : ℕ × List ℕ)
    → first_fault (segments p st.arrays st.step ts) ≡ Some reported
    → IsFirstFault p st ts reported
first_faults p st [] reported h = let bad : ◌≡◌ {A = Option (ℕ × List ℕ)} None (Some reported) = h in absurd cc
first_faults p st (t ∷ ts) reported h =
    first_here p st t ts reported (first_faults p st ts reported) h (segment_of p.plans t st.arrays st.step).after refl

pub faults_tell : FaultsTellTheFirst
faults_tell p st reported h = by (first_fault (segments p st.arrays st.step st.live)) refl h
  where
    ss : List (List ℕ × Segment)
    ss = segments p st.arrays st.step st.live

    next : List Task
    next = next_live ss

    overflows : (o : Option (List ℕ × ℕ)) → first_over st.arrays (map log_of ss) ≡ o → nat_lt 4096 (length next) ≡ false
        → first_fault ss ≡ None
        → (closed st ss (option_map fault_eight o)).fault ≡ Some reported → IsOverflow p st reported
    overflows None e b none k = let bad : ◌≡◌ {A = Option (ℕ × List ℕ)} None (Some reported) = k in absurd cc
    overflows (Some x) e b none k =
        let pair : (8, x.0) ≡ reported = cc in
        record {
          none = none_faults p st st.live none;
          few = ltb-false _ _ b;
          place = x.1;
          over = e ∙ ap (λ (y : ℕ × List ℕ). Some (y.1, x.1)) pair;
          code = ap (λ (y : ℕ × List ℕ). y.0) (sym pair);
        }

    late : (b : Bool) → nat_lt 4096 (length next) ≡ b → first_fault ss ≡ None
        → (closed st ss (or_next (if b then Some (7, []) else None) (overflow st.arrays ss))).fault ≡ Some reported
        → IsTooMany p st reported ⊎ IsOverflow p st reported
    late true e none k =
        let pair : (7, []) ≡ reported = cc in
        inl record {
          none = none_faults p st st.live none;
          many = ltb-true _ _ e;
          code = ap (λ (x : ℕ × List ℕ). x.0) (sym pair);
          path = ap (λ (x : ℕ × List ℕ). x.1) (sym pair);
        }
    late false e none k = inr (overflows (first_over st.arrays (map log_of ss)) refl e none k)

    by : (o : Option (ℕ × List ℕ)) → first_fault ss ≡ o
        → (closed st ss (or_next o (or_next (too_many next) (overflow st.arrays ss)))).fault ≡ Some reported
        → IsFirstFault p st st.live reported ⊎ (IsTooMany p st reported ⊎ IsOverflow p st reported)
    by (Some f) e k = let same : Some f ≡ Some reported = k in inl (first_faults p st st.live reported (e ∙ same))
    by None e k = inr (late (nat_lt 4096 (length next)) refl e k)
