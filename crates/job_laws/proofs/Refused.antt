-- Which refusal of a landing and of a delivery comes first.
use Rattle.std.proofs.Common.{◌≡◌, ◌≢◌, ℕ, suc, ◌+◌, ℤ, Bool, true, false, ◌&&◌, if◌then◌else◌, List, [], ◌∷◌, ◌++◌, length, Option, Some, None, refl, sym, ap, ◌∙◌, arith}
use Rattle.std.specs.List.{list_all}
use Rattle.superstep_memory.specs.declared.arrays.Put.{Put}
use Rattle.superstep_memory.specs.Cells.{is_cell}
use Rattle.superstep_memory.specs.Landing.{joined, first_outside, first_over, outside_in, at_path}
use Rattle.superstep_memory.specs.Logs.{Refusal, NotInOrder, OutOfRange, Overflow, refusal, first_bad, paths}
use Rattle.superstep_memory.specs.Paths.{path_lt, is_rising}
use Rattle.step_core.specs.OrderValue.{DeliveryValue}
use Rattle.step_core.specs.RoundValue.{RoundValue}
use Rattle.step_core.specs.Taking.{Refuses, IsOrdered, accept_number}
use Rattle.step_core.specs.declared.fault.AcceptFault.{AcceptFault}
use Rattle.step_core.specs.declared.fault.AcceptFault.TheVariants.{WrongStep, Stranger, Double}
use Rattle.job_laws.specs.Refusals.{IsFirstOutside, LandingsAreRefusedInOrder, DeliveriesAreRefusedInOrder}

off_right : (b : Bool) → (b && false) ≡ false
off_right true = refl
off_right false = refl

-- paths don't rise if one of them doesn't come before the next
falls : (front back : List (List ℕ × List Put)) (e f : List ℕ × List Put) → path_lt e.0 f.0 ≡ false
    → is_rising (paths (front ++ e ∷ f ∷ back)) ≡ false
falls [] back e f h = rw h refl
falls (d ∷ []) back e f h = ap (λ (b : Bool). path_lt d.0 e.0 && b) (falls [] back e f h) ∙ off_right (path_lt d.0 e.0)
falls (d ∷ c ∷ front) back e f h = ap (λ (b : Bool). path_lt d.0 c.0 && b) (falls (c ∷ front) back e f h) ∙ off_right (path_lt d.0 c.0)

falling : (arrays : List (List ℕ × List ℤ)) (front back : List (List ℕ × List Put)) (e f : List ℕ × List Put) → path_lt e.0 f.0 ≡ false
    → refusal arrays (front ++ e ∷ f ∷ back) ≡ Some NotInOrder
falling arrays front back e f h =
    let es = front ++ e ∷ f ∷ back in
    ap (λ (b : Bool). if b then first_bad (first_outside arrays es) (first_over arrays es) else Some NotInOrder) (falls front back e f h)

-- of one log; its first put has this place
record IsOutside (arrays : List (List ℕ × List ℤ)) (from place : ℕ) (puts : List Put) : Type 0 where
  before : List Put
  bad : Put
  after : List Put
  whole : puts ≡ before ++ bad ∷ after
  at : from + length before ≡ place
  inside : list_all (is_cell arrays) before ≡ true
  outside : is_cell arrays bad ≡ false

next : (arrays : List (List ℕ × List ℤ)) (from place : ℕ) (p : Put) (ps : List Put) → is_cell arrays p ≡ true
    → IsOutside arrays (suc from) place ps → IsOutside arrays from place (p ∷ ps)
next arrays from place p ps good r = record {
  before = p ∷ r.before;
  bad = r.bad;
  after = r.after;
  whole = ap (λ (l : List Put). p ∷ l) r.whole;
  at = (let e : suc from + length r.before ≡ place = r.at in omega arith);
  inside = rw (good, r.inside) refl;
  outside = r.outside;
}

same_place : (a b : ℕ) → Some a ≡ Some b → a ≡ b
same_place a b e = cc

in_log : (arrays : List (List ℕ × List ℤ)) (from place : ℕ) (puts : List Put) → outside_in arrays from puts ≡ Some place
    → IsOutside arrays from place puts
in_log arrays from place [] h = absurd (let wrong : ◌≡◌ {A = Option ℕ} None (Some place) = h in cc)
in_log arrays from place (p ∷ ps) h = by (in_log arrays (suc from) place ps) (is_cell arrays p) refl h
  where
    by : (outside_in arrays (suc from) ps ≡ Some place → IsOutside arrays (suc from) place ps) → (b : Bool) → is_cell arrays p ≡ b
        → (if b then outside_in arrays (suc from) ps else Some from) ≡ Some place → IsOutside arrays from place (p ∷ ps)
    by more true e k = next arrays from place p ps e (more k)
    by more false e k = record {
      before = [];
      bad = p;
      after = ps;
      whole = refl;
      at = (let same : from ≡ place = same_place from place k in omega arith);
      inside = refl;
      outside = e;
    }

all_in : (arrays : List (List ℕ × List ℤ)) (from : ℕ) (puts : List Put) → outside_in arrays from puts ≡ None
    → list_all (is_cell arrays) puts ≡ true
all_in arrays from [] h = refl
all_in arrays from (p ∷ ps) h = by (all_in arrays (suc from) ps) (is_cell arrays p) refl h
  where
    by : (outside_in arrays (suc from) ps ≡ None → list_all (is_cell arrays) ps ≡ true) → (b : Bool) → is_cell arrays p ≡ b
        → (if b then outside_in arrays (suc from) ps else Some from) ≡ None → (is_cell arrays p && list_all (is_cell arrays) ps) ≡ true
    by more true e k = rw (e, more k) refl
    by more false e k = absurd (let wrong : ◌≡◌ {A = Option ℕ} (Some from) None = k in cc)

both : (a b c : Bool) → (b && c) ≡ true → a ≡ true → (a && b) ≡ true
both a true c h e = rw e refl
both a false c h e = absurd cc

joined_all : (f : Put → Bool) (xs ys zs : List Put) → list_all f xs ≡ true → list_all f (ys ++ zs) ≡ true
    → list_all f ((xs ++ ys) ++ zs) ≡ true
joined_all f [] ys zs a b = b
joined_all f (x ∷ xs) ys zs a b = by (λ k. joined_all f xs ys zs k b) (f x) refl
  where
    by : (list_all f xs ≡ true → list_all f ((xs ++ ys) ++ zs) ≡ true) → (t : Bool) → f x ≡ t
        → (f x && list_all f ((xs ++ ys) ++ zs)) ≡ true
    by more true e = rw (e, more (sym (ap (λ (t : Bool). t && list_all f xs) e) ∙ a)) refl
    by more false e = absurd (let wrong : false ≡ true = sym (ap (λ (t : Bool). t && list_all f xs) e) ∙ a in cc)

behind : (arrays : List (List ℕ × List ℤ)) (e : List ℕ × List Put) (es : List (List ℕ × List Put)) (path : List ℕ) (place : ℕ)
    → list_all (is_cell arrays) e.1 ≡ true → IsFirstOutside arrays es path place → IsFirstOutside arrays (e ∷ es) path place
behind arrays e es path place good r = record {
  front = e ∷ r.front;
  before = r.before;
  bad = r.bad;
  after = r.after;
  back = r.back;
  whole = ap (λ (l : List (List ℕ × List Put)). e ∷ l) r.whole;
  at = r.at;
  inside = joined_all (is_cell arrays) e.1 (joined r.front) r.before good r.inside;
  outside = r.outside;
}

here : (arrays : List (List ℕ × List ℤ)) (own path : List ℕ) (puts : List Put) (es : List (List ℕ × List Put)) (place : ℕ)
    → own ≡ path → IsOutside arrays 0 place puts → IsFirstOutside arrays ((own, puts) ∷ es) path place
here arrays own path puts es place same r = record {
  front = [];
  before = r.before;
  bad = r.bad;
  after = r.after;
  back = es;
  whole = (λ i. (same i, r.whole i) ∷ es);
  at = (let e : 0 + length r.before ≡ place = r.at in omega arith);
  inside = r.inside;
  outside = r.outside;
}

found : (arrays : List (List ℕ × List ℤ)) (es : List (List ℕ × List Put)) (path : List ℕ) (place : ℕ)
    → first_outside arrays es ≡ Some (path, place) → IsFirstOutside arrays es path place
found arrays [] path place h = absurd (let wrong : ◌≡◌ {A = Option (List ℕ × ℕ)} None (Some (path, place)) = h in cc)
found arrays (e ∷ es) path place h = by (found arrays es path place) (outside_in arrays 0 e.1) refl h
  where
    by : (first_outside arrays es ≡ Some (path, place) → IsFirstOutside arrays es path place) → (o : Option ℕ) → outside_in arrays 0 e.1 ≡ o
        → at_path e.0 o (first_outside arrays es) ≡ Some (path, place) → IsFirstOutside arrays (e ∷ es) path place
    by more (Some k) o w =
        let pair : (e.0, k) ≡ (path, place) = cc in
        let at : k ≡ place = ap (λ (x : List ℕ × ℕ). x.1) pair in
        here arrays e.0 path e.1 es place (ap (λ (x : List ℕ × ℕ). x.0) pair) (in_log arrays 0 place e.1 (o ∙ ap (λ (n : ℕ). Some n) at))
    by more None o w = behind arrays e es path place (all_in arrays 0 e.1 o) (more w)

outside : (arrays : List (List ℕ × List ℤ)) (es : List (List ℕ × List Put)) (path : List ℕ) (place : ℕ)
    → refusal arrays es ≡ Some (OutOfRange path place) → IsFirstOutside arrays es path place
outside arrays es path place h = by (is_rising (paths es)) (first_outside arrays es) refl (first_over arrays es) h
  where
    by : (b : Bool) (o : Option (List ℕ × ℕ)) → first_outside arrays es ≡ o → (over : Option (List ℕ × ℕ))
        → (if b then first_bad o over else Some NotInOrder) ≡ Some (OutOfRange path place) → IsFirstOutside arrays es path place
    by true (Some x) o over w =
        let same : ◌≡◌ {A = Option Refusal} (Some (OutOfRange x.0 x.1)) (Some (OutOfRange path place)) = w in
        let one : OutOfRange x.0 x.1 ≡ OutOfRange path place = cc in
        let first : x.0 ≡ path = cc in
        let second : x.1 ≡ place = cc in
        found arrays es path place (o ∙ (λ i. Some (first i, second i)))
    by true None o (Some y) w =
        absurd (let wrong : ◌≡◌ {A = Option Refusal} (Some (Overflow y.0 y.1)) (Some (OutOfRange path place)) = w in cc)
    by true None o None w = absurd (let wrong : ◌≡◌ {A = Option Refusal} None (Some (OutOfRange path place)) = w in cc)
    by false q o over w = absurd (let wrong : ◌≡◌ {A = Option Refusal} (Some NotInOrder) (Some (OutOfRange path place)) = w in cc)

pub landings : LandingsAreRefusedInOrder
landings = record { falling = falling; outside = outside }

by_step : (fault : AcceptFault) (r : RoundValue) (d : DeliveryValue) → Refuses fault r d → d.step ≢ r.step → accept_number fault ≡ 3
by_step WrongStep r d h k = refl
by_step Stranger r d h k = absurd (k h.0)
by_step Double r d h k = absurd (k h.0)

by_job : (fault : AcceptFault) (r : RoundValue) (d : DeliveryValue) → Refuses fault r d → d.step ≡ r.step → d.job ≢ r.job
    → accept_number fault ≡ 1
by_job WrongStep r d h e k = absurd (h e)
by_job Stranger r d h e k = refl
by_job Double r d h e k = (let own : IsOrdered r d = h.1 in absurd (k own.0))

by_order : (fault : AcceptFault) (r : RoundValue) (d : DeliveryValue) → Refuses fault r d → d.step ≡ r.step → IsOrdered r d
    → accept_number fault ≡ 2
by_order WrongStep r d h e k = absurd (h e)
by_order Stranger r d h e k = absurd (h.1 k)
by_order Double r d h e k = refl

pub deliveries : DeliveriesAreRefusedInOrder
deliveries = record { step = by_step; job = by_job; order = by_order }
