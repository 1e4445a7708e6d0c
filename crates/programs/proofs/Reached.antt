-- A run on one thread, superstep by superstep.
use Rattle.std.proofs.Common.{◌≡◌, ℕ, suc, ◌-◌, ◌≤◌, ◌<◌, Bool, true, false, nat_lt, nat_le, List, [], ◌∷◌, ◌++◌, map, length, Option, Some, None, get_or, refl, sym, ap, ◌∙◌, subst, arith, inl, inr}
use Rattle.std.specs.Prelude.{ℤ, ◌⊎◌, if◌then◌else◌, not, Result, Ok, Err, OnOk}
use Rattle.std.specs.Option.{is_some}
use Rattle.std.specs.Result.{is_err}
use Rattle.std.proofs.lemmas.Bool.Decides.{nat_tests}
use Rattle.std.proofs.lemmas.List.{length-map, length-append, get_or_append_left}
use Rattle.std.proofs.Math.Seq.{get_or-append_seam}
use Rattle.phase_records.specs.ReportValue.{ReportValue}
use Rattle.phase_records.specs.Status.{Status, Fault, Ended, Limit}
use Rattle.programs.specs.Meaning.{Segment, Frame, children}
use Rattle.programs.specs.Superstep.{State, superstep, segments, fault_in}
use Rattle.programs.specs.Supersteps.{so_far, status, status_of, report_with}
use Rattle.programs.specs.History.{living_after, Entry, says_in, says_by, IsEntered, OfState, Setup, state_after, HasRun, HasRunTo}
use Rattle.programs.specs.Order.{AreOrdered}
use Rattle.programs.specs.Steps.{StepsValue, begun, ended, IsRunning, left_by, state_in, live_after, as_kept, HasStepped}
use Rattle.programs.proofs.Histories.{superstep_by, so_far_more, so_far_shorter}
use Rattle.programs.proofs.Runs.{goes, step_moves, ended_is_last}

-- ---- how a run has ended

-- it is looked at before the tasks after a fault are dropped
pub status_kept : {T : Type 0} (limit step : ℕ) (fault : Option (ℕ × List ℕ)) (live : List T)
    → status_of limit step fault (live_after fault live) ≡ status_of limit step fault live
status_kept limit step None live = refl
status_kept limit step (Some f) live = refl

pub status_mapped : {S T : Type 0} (meant : S → T) (limit step : ℕ) (fault : Option (ℕ × List ℕ)) (live : List S)
    → status_of limit step fault (map meant live) ≡ status_of limit step fault live
status_mapped meant limit step (Some f) live = refl
status_mapped meant limit step None [] = refl
status_mapped meant limit step None (t ∷ ts) = refl

-- the tasks that live then
pub living_kept : {T : Type 0} (limit step : ℕ) (fault : Option (ℕ × List ℕ)) (live : List T) (s : Status)
    → status_of limit step fault live ≡ Some s → living_after s live ≡ live_after fault live
living_kept limit step (Some f) live s e = let same : Fault f.0 step f.1 ≡ s = cc in ap (λ (x : Status). living_after x live) (sym same)
living_kept limit step None [] s e = let same : Ended step ≡ s = cc in ap (λ (x : Status). living_after x []) (sym same)
living_kept limit step None (t ∷ ts) s e = by (nat_le limit step) e
  where
    by : (b : Bool) → (if b then Some (Limit step) else None) ≡ Some s → living_after s (t ∷ ts) ≡ t ∷ ts
    by true e = let same : Limit step ≡ s = cc in ap (λ (x : Status). living_after x (t ∷ ts)) (sym same)
    by false e = cc

open_fault : {S : Type 0} (limit step : ℕ) (fault : Option (ℕ × List ℕ)) (live : List S) → status_of limit step fault live ≡ None
    → fault ≡ None
open_fault limit step None live e = refl
open_fault limit step (Some f) live e = cc

open_some : {S : Type 0} (limit step : ℕ) (fault : Option (ℕ × List ℕ)) (live : List S) → status_of limit step fault live ≡ None
    → 0 < length live
open_some limit step (Some f) live e = cc
open_some limit step None [] e = cc
open_some limit step None (t ∷ ts) e = omega arith

open_early : {S : Type 0} (limit step : ℕ) (fault : Option (ℕ × List ℕ)) (live : List S) → status_of limit step fault live ≡ None
    → step < limit
open_early limit step (Some f) live e = cc
open_early limit step None [] e = cc
open_early limit step None (t ∷ ts) e = let b = late (nat_le limit step) e in grind arith
  where
    late : (b : Bool) → (if b then Some (Limit step) else None) ≡ None → b ≡ false
    late true h = cc
    late false h = refl

-- what it says of a run that another superstep can be taken
pub record IsOpen {S : Type 0} (v : StepsValue S) : Type 0 where
  pub status : status_of v.limit v.step v.fault v.tasks ≡ None
  pub fault : v.fault ≡ None
  pub some : 0 < length v.tasks
  pub early : v.step < v.limit

pub status_sound : {S : Type 0} (v : StepsValue S) → v.failed ≡ false → ended v ≡ status_of v.limit v.step v.fault v.tasks
status_sound v e = ap (λ (b : Bool). if b then None else status_of v.limit v.step v.fault v.tasks) e

pub is_open : {S : Type 0} (v : StepsValue S) → IsRunning v → IsOpen v
is_open v r =
    let e : status_of v.limit v.step v.fault v.tasks ≡ None = sym (status_sound v r.sound) ∙ r.going in
    record {
      status = e;
      fault = open_fault v.limit v.step v.fault v.tasks e;
      some = open_some v.limit v.step v.fault v.tasks e;
      early = open_early v.limit v.step v.fault v.tasks e;
    }

-- how many supersteps can still be taken, at most
abbrev pub still : Option (ℕ × List ℕ) → ℕ → ℕ
still None n = suc n
still (Some f) n = 0

abbrev pub steps_left : {S : Type 0} → StepsValue S → ℕ
steps_left v = still v.fault (v.limit - v.step)

-- without a fault all tasks are kept
pub all_kept : {T : Type 0} (st : State T) → st.fault ≡ None → as_kept st ≡ st
all_kept st e = ap (λ (o : Option (ℕ × List ℕ)). record st { live = live_after o st.live }) e

late_status : {T : Type 0} (limit step : ℕ) (live : List T) → 0 < length live → limit ≤ step
    → status_of limit step None live ≡ Some (Limit step)
late_status limit step [] some le = absurd (omega (arith, some))
late_status limit step (t ∷ ts) some le = let b : nat_le limit step ≡ true = grind arith in late (nat_le limit step) b
  where
    late : (b : Bool) → b ≡ true → (if b then Some (Limit step) else None) ≡ Some (Limit step)
    late true h = refl
    late false h = cc

-- ---- the supersteps of a history

-- the setup of a run which begins with these tasks
abbrev pub setup_for : {S T : Type 0} → Frame T → (T → List (List ℕ × List ℤ) → ℕ → Segment T → Type 0) → ℕ → (S → T)
    → List (List ℕ × List ℤ) → List S → ℕ → Setup T
setup_for frame may most meant arrays starts limit =
    record { frame = frame; may = may; most = most; arrays = arrays; tasks = map meant starts; limit = limit }

module _ {T : Type 0} (setup : Setup T) where
  abbrev f : Frame T
  f = setup.frame

  abbrev may : T → List (List ℕ × List ℤ) → ℕ → Segment T → Type 0
  may = setup.may

  abbrev most : ℕ
  most = setup.most

  abbrev arrays : List (List ℕ × List ℤ)
  arrays = setup.arrays

  abbrev tasks : List T
  tasks = setup.tasks

  abbrev limit : ℕ
  limit = setup.limit

  -- one superstep more is entered
  pub entered_more : (history : List (List (Entry T))) (es : List (Entry T))
      → ((n : ℕ) → n < length history → IsEntered f may (so_far (says_by f most history) arrays tasks limit n) (get_or history n []))
      → IsEntered f may (so_far (says_by f most history) arrays tasks limit (length history)) es
      → (n : ℕ) → n < length (history ++ es ∷ [])
      → IsEntered f may (so_far (says_by f most (history ++ es ∷ [])) arrays tasks limit n) (get_or (history ++ es ∷ []) n [])
  entered_more history es before now n lt = by (nat_lt n (length history)) refl
    where
      more : List (List (Entry T))
      more = history ++ es ∷ []

      by : (b : Bool) → nat_lt n (length history) ≡ b
          → IsEntered f may (so_far (says_by f most more) arrays tasks limit n) (get_or more n [])
      by true e =
          let k : n < length history = grind (arith, nat_tests) in
          subst (λ st. IsEntered f may st (get_or more n []))
          (sym (so_far_more f most history (es ∷ []) arrays tasks limit n (omega (arith, k))))
          (subst (IsEntered f may (so_far (says_by f most history) arrays tasks limit n)) (sym (get_or_append_left history (es ∷ []) [] n k)) (before n k))
      by false e =
          let le : length history ≤ n = grind (arith, nat_tests) in
          let l = length-append history (es ∷ []) in
          let same : n ≡ length history = omega (arith, le, l, lt) in
          subst (λ st. IsEntered f may st (get_or more n []))
          (sym (ap (so_far (says_by f most more) arrays tasks limit) same ∙ so_far_more f most history (es ∷ []) arrays tasks limit (length history) (omega arith)))
          (subst (IsEntered f may (so_far (says_by f most history) arrays tasks limit (length history)))
          (sym (ap (λ (k : ℕ). get_or more k []) same ∙ get_or-append_seam history es [] [])) now)

  -- this holds of the states as the supersteps of a history began
  abbrev pub AllBegan : (State T → Type 0) → List (List (Entry T)) → Type 0
  AllBegan seen history = (n : ℕ) → n < length history → seen (so_far (says_by f most history) arrays tasks limit n)

  pub none_began : (seen : State T → Type 0) → AllBegan seen []
  none_began seen n lt = absurd (omega (arith, lt))

  -- it holds of one superstep more
  pub began_more : (seen : State T → Type 0) (history : List (List (Entry T))) (es : List (Entry T)) → AllBegan seen history
      → seen (so_far (says_by f most history) arrays tasks limit (length history)) → AllBegan seen (history ++ es ∷ [])
  began_more seen history es before now n lt = by (nat_lt n (length history)) refl
    where
      more : List (List (Entry T))
      more = history ++ es ∷ []

      by : (b : Bool) → nat_lt n (length history) ≡ b → seen (so_far (says_by f most more) arrays tasks limit n)
      by true e =
          let k : n < length history = grind (arith, nat_tests) in
          subst seen (sym (so_far_more f most history (es ∷ []) arrays tasks limit n (omega (arith, k)))) (before n k)
      by false e =
          let le : length history ≤ n = grind (arith, nat_tests) in
          let l = length-append history (es ∷ []) in
          let same : n ≡ length history = omega (arith, le, l, lt) in
          subst seen
          (sym (ap (so_far (says_by f most more) arrays tasks limit) same ∙ so_far_more f most history (es ∷ []) arrays tasks limit (length history) (omega arith)))
          now

  -- ---- a run on one thread, whose tasks mean this

  module _ {S : Type 0} (meant : S → T) where
    -- the supersteps so far, by their history
    pub record IsReached (v : StepsValue S) : Type 0 where
      pub history : List (List (Entry T))
      pub entered : (n : ℕ) → n < length history
          → IsEntered f may (so_far (says_by f most history) arrays tasks limit n) (get_or history n [])
      pub state : state_in meant v ≡ as_kept (so_far (says_by f most history) arrays tasks limit (length history))
      pub count : v.fault ≡ None → length history ≡ v.step
      pub sound : v.failed ≡ false
      pub bounds : (v.most ≡ most) × (v.limit ≡ limit)

    abbrev pub reached_none : (ts : List S) → map meant ts ≡ tasks → IsReached (begun arrays ts most limit)
    reached_none ts e = record {
      history = [];
      entered = λ n lt. absurd (omega (arith, lt));
      state = λ i. record { step = 0; arrays = arrays; live = e i; prints = []; records = []; fault = None };
      count = λ g. refl;
      sound = refl;
      bounds = (refl, refl);
    }

    -- the state that a run has reached
    abbrev pub state_at : {v : StepsValue S} → IsReached v → State T
    state_at {v} h = so_far (says_by f most h.history) arrays tasks limit (length h.history)

    fault_at : (v : StepsValue S) (h : IsReached v) → (state_at h).fault ≡ v.fault
    fault_at v h = ap (λ (x : State T). x.fault) (sym h.state)

    pub ended_at : (v : StepsValue S) (h : IsReached v) → status limit (state_at h) ≡ ended v
    ended_at v h =
        let st = state_at h in
        sym (status_kept limit st.step st.fault st.live)
        ∙ ap (status limit) (sym h.state)
        ∙ status_mapped meant limit v.step v.fault v.tasks
        ∙ ap (λ (n : ℕ). status_of n v.step v.fault v.tasks) (sym h.bounds.1)
        ∙ sym (status_sound v h.sound)

    -- the whole of it, while it runs
    pub whole_state : (v : StepsValue S) (h : IsReached v) → v.fault ≡ None → state_in meant v ≡ state_at h
    whole_state v h e = h.state ∙ all_kept (state_at h) (fault_at v h ∙ e)

    -- what is seen of the run is seen of the state that it has reached
    pub seen_now : (seen : ℕ → List (List ℕ × List ℤ) → ℕ → Type 0) (v : StepsValue S) (h : IsReached v) → v.fault ≡ None
        → seen v.step v.arrays (length v.tasks) → OfState seen (state_at h)
    seen_now seen v h e x = subst (OfState seen) (whole_state v h e) (subst (seen v.step v.arrays) (sym (length-map v.tasks meant)) x)

    -- one superstep more
    abbrev pub reached_more : (v new : StepsValue S) (h : IsReached v) → IsRunning v → HasStepped f may meant v new → IsReached new
    reached_more v new h run t =
        let more = h.history ++ t.entries ∷ [] in
        let o = is_open v run in
        let whole = whole_state v h o.fault in
        let st = state_at h in
        let l = length-append h.history (t.entries ∷ []) in
        let up : length more ≡ suc (length h.history) = omega (arith, l) in
        let at : st.step ≡ length h.history = ap (λ (x : State T). x.step) (sym whole) ∙ sym (h.count o.fault) in
        let own : get_or more st.step [] ≡ t.entries = ap (λ (n : ℕ). get_or more n []) at ∙ get_or-append_seam h.history t.entries [] [] in
        let same : so_far (says_by f most more) arrays tasks limit (length h.history) ≡ st =
        so_far_more f most h.history (t.entries ∷ []) arrays tasks limit (length h.history) (omega arith) in
        let next : superstep (says_by f most more) st ≡ superstep (says_in f v.most t.entries) (state_in meant v) =
        superstep_by f most more st ∙ ap (λ (es : List (Entry T)). superstep (says_in f most es) st) own
        ∙ (λ i. superstep (says_in f (sym h.bounds.0 i) t.entries) (sym whole i)) in
        let going : status limit st ≡ None = ended_at v h ∙ run.going in
        let reached : so_far (says_by f most more) arrays tasks limit (length more)
        ≡ superstep (says_in f v.most t.entries) (state_in meant v) =
        ap (so_far (says_by f most more) arrays tasks limit) up
        ∙ goes (says_by f most more) arrays tasks (status limit (so_far (says_by f most more) arrays tasks limit (length h.history)))
        (so_far (says_by f most more) arrays tasks limit (length h.history))
        (superstep (says_by f most more) (so_far (says_by f most more) arrays tasks limit (length h.history)))
        (ap (status limit) same ∙ going)
        ∙ ap (superstep (says_by f most more)) same ∙ next in
        let s = says_in f v.most t.entries in
        let ss = segments s v.arrays v.step (map meant v.tasks) in
        record {
          history = more;
          entered = entered_more h.history t.entries h.entered (subst (λ x. IsEntered f may x t.entries) whole t.entered);
          state = t.state ∙ ap as_kept (sym reached);
          count = λ none.
              let calm : (superstep s (state_in meant v)).fault ≡ None = ap (λ (x : State T). x.fault) (sym t.state) ∙ none in
              let moved = step_moves s arrays tasks (state_in meant v) ss (fault_in f.path v.most v.arrays ss) calm in
              let now = ap (λ (x : State T). x.step) t.state in
              let k = h.count o.fault in
              omega (arith, up, moved, now, k);
          sound = t.sound;
          bounds = (t.most ∙ h.bounds.0, t.limit ∙ h.bounds.1);
        }

    -- fewer supersteps are left
    pub fewer_left : (v new : StepsValue S) → IsRunning v → HasStepped f may meant v new → suc (steps_left new) ≤ steps_left v
    fewer_left v new run t =
        subst (λ (n : ℕ). suc (steps_left new) ≤ n) (ap (λ (g : Option (ℕ × List ℕ)). still g (v.limit - v.step)) (sym o.fault))
        (by new.fault refl)
      where
        o : IsOpen v
        o = is_open v run

        by : (g : Option (ℕ × List ℕ)) → new.fault ≡ g → suc (still g (new.limit - new.step)) ≤ suc (v.limit - v.step)
        by (Some x) e = omega arith
        by None e =
            let s = says_in f v.most t.entries in
            let ss = segments s v.arrays v.step (map meant v.tasks) in
            let calm : (superstep s (state_in meant v)).fault ≡ None = ap (λ (x : State T). x.fault) (sym t.state) ∙ e in
            let moved = step_moves s arrays tasks (state_in meant v) ss (fault_in f.path v.most v.arrays ss) calm in
            let now = ap (λ (x : State T). x.step) t.state in
            let b = t.limit in
            let early = o.early in
            omega (arith, moved, now, b, early)

    -- it has ended
    abbrev pub reached_end : (v : StepsValue S) (s : Status) (h : IsReached v) → ended v ≡ Some s
        → HasRun setup (left_by v s) (map meant v.tasks)
    reached_end v s h e =
        let st = state_at h in
        let over : status limit st ≡ Some s = ended_at v h ∙ e in
        let last = ended_is_last (says_by f most h.history) arrays tasks limit (length h.history) s over in
        record {
          history = h.history;
          entered = h.entered;
          ended = over;
          report =
              ap (λ (x : State T). report_with x (status limit x)) (sym last) ∙ ap (report_with st) over
              ∙ sym
              (λ i. Some (record { prints = (h.state i).prints; records = (h.state i).records; arrays = (h.state i).arrays; status = s }));
          at_end = living_kept limit st.step st.fault st.live s over ∙ ap (λ (x : State T). x.live) (sym h.state);
        }

    -- a run of which this was seen, and whose tasks are in order
    pub record IsWatched (seen : State T → Type 0) (v : StepsValue S) : Type 0 where
      pub reached : IsReached v
      pub went : AllBegan seen reached.history
      pub ordered : AreOrdered f (map meant v.tasks)

    -- the watcher stops it while tasks live
    pub stopped_by : (stops goes : ℕ → List (List ℕ × List ℤ) → ℕ → Type 0) (v : StepsValue S) (h : IsReached v) → IsRunning v
        → AllBegan (OfState goes) h.history → stops v.step v.arrays (length v.tasks)
        → HasRunTo stops goes setup (left_by v (Limit v.step)) (map meant v.tasks)
    stopped_by stops lets v h run went x =
        let o = is_open v run in
        let s = says_by f most h.history in
        let k = h.count o.fault in
        let b = h.bounds.1 in
        let le : v.step ≤ limit = let a = o.early in omega (arith, a, b) in
        let same : (n : ℕ) → n ≤ v.step → so_far s arrays tasks v.step n ≡ so_far s arrays tasks limit n =
        λ n lm. so_far_shorter f most s arrays tasks limit v.step n le lm in
        let state : state_in meant v ≡ so_far s arrays tasks v.step (length h.history) =
        whole_state v h o.fault ∙ sym (same (length h.history) (omega (arith, k))) in
        let some : 0 < length (map meant v.tasks) = let a = o.some in let l = length-map v.tasks meant in omega (arith, a, l) in
        let late : status v.step (state_in meant v) ≡ Some (Limit v.step) =
        ap (λ (g : Option (ℕ × List ℕ)). status_of v.step v.step g (map meant v.tasks)) o.fault
        ∙ late_status v.step v.step (map meant v.tasks) some (omega arith) in
        let over : status v.step (so_far s arrays tasks v.step (length h.history)) ≡ Some (Limit v.step) =
        ap (status v.step) (sym state) ∙ late in
        let last = ended_is_last s arrays tasks v.step (length h.history) (Limit v.step) over in
        record {
          taken = v.step;
          within = le;
          run = record {
            history = h.history;
            entered = λ n lt. subst (λ st. IsEntered f may st (get_or h.history n [])) (sym (same n (omega (arith, lt, k)))) (h.entered n lt);
            ended = over;
            report =
                ap (λ (x : State T). report_with x (status v.step x)) (sym last)
                ∙ ap (report_with (so_far s arrays tasks v.step (length h.history))) over
                ∙ sym
                (λ i. Some (record { prints = (state i).prints; records = (state i).records; arrays = (state i).arrays; status = Limit v.step }));
            at_end = ap (λ (x : State T). x.live) (sym state);
          };
          went = λ n lt. let m : n < length h.history = lt in subst (OfState lets) (sym (same n (omega (arith, m, k)))) (went n m);
          stopped = inr (subst (stops v.step v.arrays) (sym (length-map v.tasks meant)) x);
        }

-- paths as they are read
pub paths_read : {S T : Type 0} (f : Frame T) (meant : S → T) (path : S → List ℕ) (law : (t : S) → f.path (meant t) ≡ path t) (ts : List S)
    → map f.path (map meant ts) ≡ map path ts
paths_read f meant path law [] = refl
paths_read f meant path law (t ∷ ts) = λ i. law t i ∷ paths_read f meant path law ts i

-- the paths of the tasks that a run begins with
pub starts_read : {S T : Type 0} (f : Frame T) (meant : S → T) (path : S → List ℕ) (law : (t : S) → f.path (meant t) ≡ path t) (ts : List S)
    → map path ts ≡ children [] 0 (length ts)
    → map f.path (map meant ts) ≡ children [] 0 (length (map meant ts))
starts_read f meant path law ts h = paths_read f meant path law ts ∙ h ∙ ap (children [] 0) (sym (length-map ts meant))

-- a run to its limit
pub to_limit : {T : Type 0} (stops goes : ℕ → List (List ℕ × List ℤ) → ℕ → Type 0) (setup : Setup T) (outcome : ReportValue)
    (living : List T) (run : HasRun setup outcome living)
    → ((n : ℕ) → n < length run.history → OfState goes (state_after setup run.history n))
    → HasRunTo stops goes setup outcome living
to_limit stops goes setup outcome living run went =
    record { taken = setup.limit; within = omega arith; run = run; went = went; stopped = inl refl }

-- one that nobody may stop is to its limit
pub never_stopped : {T : Type 0} (goes : ℕ → List (List ℕ × List ℤ) → ℕ → Type 0) (setup : Setup T) (outcome : ReportValue)
    (living : List T)
    → HasRunTo (λ step arrays tasks. ⊥) goes setup outcome living → HasRun setup outcome living
never_stopped goes setup outcome living h = by h.stopped
  where
    by : (h.taken ≡ setup.limit) ⊎ ⊥ → HasRun setup outcome living
    by (inl e) = subst (λ (n : ℕ). HasRun (record setup { limit = n }) outcome living) e h.run
    by (inr x) = absurd x

-- ---- what the code's tests say

pub none_is : {A : Type 0} (o : Option A) (b : Bool) → is_some o ≡ not b → b ≡ true → o ≡ None
none_is None b e t = refl
none_is (Some x) b e t = let bad : true ≡ not true = e ∙ ap not t in cc

pub some_is : {A : Type 0} (o : Option A) (b : Bool) → is_some o ≡ not b → b ≡ false → (x : A) × (o ≡ Some x)
some_is None b e t = let bad : false ≡ not false = e ∙ ap not t in cc
some_is (Some x) b e t = (x, refl)

pub ok_is : {X E : Type 0} (r : Result X E) (P : Type 0) → is_err r ≡ false → OnOk r P → P
ok_is (Ok x) P e h = h
ok_is (Err y) P e h = cc
