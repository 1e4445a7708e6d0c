-- A superstep whose stretches have all run is closed.
use Rattle.std.proofs.Common.{◌≡◌, ◌==◌, ℕ, zero, suc, ◌+◌, ◌-◌, ◌≤◌, ◌<◌, Bool, true, false, nat_le, List, [], ◌∷◌, ◌++◌, map, length, Option, Some, None, get_or, refl, sym, ap, ◌∙◌, subst, ⊎_elim, inl, inr, drop, arith}
use Rattle.std.specs.Prelude.{ℤ, ◌&&◌, ◌⊎◌, not, if◌then◌else◌, Result, Ok, Err, IfOk, IfSome, is_some}
use Rattle.std.specs.Option.{option_map}
use Rattle.std.proofs.lemmas.List.{length-map}
use Rattle.superstep_memory.specs.declared.arrays.Put.{Put}
use Rattle.superstep_memory.specs.Landing.{landed, over_in}
use Rattle.superstep_memory.specs.Paths.{is_rising}
use Rattle.superstep_memory.specs.PathOrder.{in_path_order}
use Rattle.phase_records.specs.PrintValue.{PrintValue}
use Rattle.phase_records.specs.declared.record.PhaseRecord.{PhaseRecord}
use Rattle.phase_records.specs.Status.{Status, Ended, Fault, Limit}
use Rattle.phase_records.specs.ReportValue.{ReportValue}
use Rattle.programs.specs.History.{IsEntered, says_by, living_after}
use Rattle.programs.proofs.Histories.{so_far_shorter}
use Rattle.std.proofs.lemmas.Bool.Decides.{nat_tests}
use Rattle.program_stretches.specs.Reached.{IsReached, HasRunOn, with_earlier}
use Rattle.superstep_memory.proofs.InOrder.{count_in_order}
use Rattle.programs.specs.Meaning.{children}
use Rattle.programs.specs.DeedValue.{DeedValue}
use Rattle.programs.specs.Superstep.{State, ended_by}
use Rattle.programs.specs.Supersteps.{so_far, status, status_of}
use Rattle.programs.specs.Regroup.{AreNumbered}
use Rattle.programs.specs.InPlace.{living_with, left_in, spawned_in, record_in, overflow_at, maker}
use Rattle.programs.proofs.Reached.{starts_read}
use Rattle.program_stretches.specs.declared.fault.Outcome.{Outcome}
use Rattle.program_stretches.specs.declared.fault.Outcome.TheVariants.{Landed, Faulted, TooMany, Overflowed}
use Rattle.program_stretches.specs.Parts.{Reading, setup_by, HasDone, AreOwn, AreFresh, fresh_part, covers, is_done, fault_in, tasks_in, deeds_in, prints_in, without_puts, renewed}
use Rattle.program_stretches.specs.SuperstepStart.{SuperstepStartValue, live_of, states_by, AllOpen}
use Rattle.program_stretches.specs.Did.{DidAll, IsStepTo}
use Rattle.program_stretches.specs.StretchesValue.{StretchesValue, state_with, status_for, status_in, is_at_limit, IsAfter, IsOpen, IsRunSoFar, HaveRun}
use Rattle.program_stretches.specs.Closing.{EndsAs, IsClosed, CountsAs, HasLeftTo, HasLeft, opened_with}
use Rattle.program_stretches.proofs.Taken.{has_run, faulted, fits, many, over, goes_on}
use Rattle.program_stretches.proofs.RunsSoFar.{status_is, unfaulted, same_states, after_next}
use Rattle.program_stretches.proofs.Along.{both}
use Rattle.program_stretches.proofs.Whole.{at_number, drop_more, drop_end, HaveDid, have_did}
use Rattle.program_stretches.specs.PartValue.{PartValue}

module _ {Q S T : Type 0} (m : Q → Reading S T) (v : StretchesValue Q S)
    (law : (t : S) → (m v.program).frame.path ((m v.program).meant t) ≡ (m v.program).path t) (run : status_in v ≡ None) where
  -- the run as the superstep began
  abbrev pub state_of : SuperstepStartValue Q S → State T
  state_of o = state_with v (map (m v.program).meant (live_of o))

  module _ (o : SuperstepStartValue Q S) (begun : IsAfter m v (map (m v.program).meant (live_of o))) where
    start_paths : map (m v.program).frame.path (map (m v.program).meant (live_of begun.begun.first))
        ≡ children [] 0 (length (map (m v.program).meant (live_of begun.begun.first)))
    start_paths = starts_read (m v.program).frame (m v.program).meant (m v.program).path law (live_of begun.begun.first) begun.begun.paths

    few_tasks : length (live_of o) ≤ v.most
    few_tasks = let l = length-map (live_of o) (m v.program).meant in let f = begun.few in omega (arith, l, f)

    going : status v.limit (state_of o) ≡ None
    going = status_is m v (map (m v.program).meant (live_of o)) begun.count ∙ run

    -- a task's fault ends it
    pub ends_fault : (x : ℕ × List ℕ) (puts : List Put) (us : List S) (ds : List (DeedValue S)) (after : List PrintValue)
        → DidAll (m v.program) v.arrays v.step (Some x) puts (live_of o) us ds after
        → IsStepTo (m v.program).frame (m v.program).may v.most (state_of o) (ended_by (state_of o) x) Faulted
    ends_fault x puts us ds after d =
        faulted (m v.program) law v.most begun.begun.first.arrays (map (m v.program).meant (live_of begun.begun.first)) v.limit v.given
        start_paths (state_of o) begun.reached going (live_of o) refl few_tasks
        (Some x) puts us ds after d x refl

    module _ (puts : List Put) (us : List S) (ds : List (DeedValue S)) (after : List PrintValue)
        (d : DidAll (m v.program) v.arrays v.step None puts (live_of o) us ds after) where
      pub record Fit : Type 0 where
        pub same : length us ≡ length ds
        pub all : length ds ≡ v.count
        pub living : length (living_with us ds) + left_in ds ≡ length ds + spawned_in ds
        pub rising : is_rising (map (m v.program).path us) ≡ true
        pub numbered : AreNumbered (m v.program).path us ds

      pub fit : Fit
      fit =
          let f =
          fits (m v.program) law v.most begun.begun.first.arrays (map (m v.program).meant (live_of begun.begun.first)) v.limit v.given
          start_paths (state_of o) begun.reached going (live_of o) refl few_tasks
          None puts us ds after d refl in
          record {
            same = f.same;
            all = f.all ∙ sym (length-map (live_of o) (m v.program).meant) ∙ sym begun.count;
            living = f.living;
            rising = f.rising;
            numbered = f.numbered;
          }

      -- too many tasks end it
      pub ends_many : v.most + left_in ds < length ds + spawned_in ds
          → IsStepTo (m v.program).frame (m v.program).may v.most (state_of o) (ended_by (state_of o) (7, [])) TooMany
      ends_many lt =
          let l = fit.living in
          many (m v.program) law v.most begun.begun.first.arrays (map (m v.program).meant (live_of begun.begun.first)) v.limit v.given
          start_paths (state_of o) begun.reached going (live_of o) refl few_tasks
          None puts us ds after d refl (omega (arith, l, lt))

      -- a put that overflows ends it
      pub record EndsOver (blame : Option (ℕ × List ℕ)) : Type 0 where
        pub cause : ℕ × List ℕ
        pub is : blame ≡ Some cause
        pub step : IsStepTo (m v.program).frame (m v.program).may v.most (state_of o) (ended_by (state_of o) cause) Overflowed

      pub ends_over : (place : ℕ) (blame : Option (ℕ × List ℕ)) → length ds + spawned_in ds ≤ v.most + left_in ds
          → Some place ≡ over_in v.arrays [] 0 puts
          → blame ≡ option_map overflow_at (maker (m v.program).path us ds place) → EndsOver blame
      ends_over place blame le there made =
          let l = fit.living in
          let e =
          over (m v.program) law v.most begun.begun.first.arrays (map (m v.program).meant (live_of begun.begun.first)) v.limit v.given
          start_paths (state_of o) begun.reached going (live_of o) refl few_tasks
          None puts us ds after d refl place blame (omega (arith, l, le)) there made in
          record { cause = e.cause; is = e.is; step = e.step }

      -- or it goes on
      pub goes : (reported : PhaseRecord) → length ds + spawned_in ds ≤ v.most + left_in ds → reported ≡ record_in v.step ds
          → None ≡ over_in v.arrays [] 0 puts
          → IsStepTo (m v.program).frame (m v.program).may v.most (state_of o) (record {
            step = v.step + 1;
            arrays = landed puts v.arrays;
            live = map (m v.program).meant (in_path_order (m v.program).path (living_with us ds));
            prints = v.prints ++ after;
            records = v.records ++ reported ∷ [];
            fault = None;
          }) Landed
      goes reported le e none =
          let l = fit.living in
          goes_on (m v.program) law v.most begun.begun.first.arrays (map (m v.program).meant (live_of begun.begun.first)) v.limit v.given
          start_paths (state_of o) begun.reached going (live_of o) refl few_tasks
          None puts us ds after d refl reported (omega (arith, l, le)) e none

  -- a fault is how it ends
  pub closed_end : (o : SuperstepStartValue Q S) (older : List (SuperstepStartValue Q S)) → v.log ≡ o ∷ older
      → (f : ℕ × List ℕ) (w : StretchesValue Q S) → w ≡ record v { fault = Some f }
      → (out : Outcome) → IsStepTo (m v.program).frame (m v.program).may v.most (state_of o) (ended_by (state_of o) f) out
      → ((x : StretchesValue Q S) (live : List T) → x.fault ≡ Some f → EndsAs m out x live) → IsClosed m v w out
  closed_end o older log f w e out step leaves =
      subst (λ (x : StretchesValue Q S). IsClosed m v x out) (sym e) (record {
        start = o;
        older = older;
        log = log;
        live = map (m v.program).meant (live_of o);
        step = step;
        leaves = leaves (record v { fault = Some f }) (map (m v.program).meant (live_of o)) refl;
        same = record { named = refl; program = refl; most = refl; limit = refl };
      })

-- how many tasks live after a superstep, by its record
pub moved_count : {Q S T : Type 0} (m : Q → Reading S T) (v : StretchesValue Q S)
    (law : (t : S) → (m v.program).frame.path ((m v.program).meant t) ≡ (m v.program).path t) (run : status_in v ≡ None)
    (puts : List Put) (us : List S) (ds : List (DeedValue S)) (after : List PrintValue) (h : HaveRun m v puts us ds after)
    (reported : PhaseRecord)
    → reported ≡ record_in v.step ds
    → reported.parties - reported.left ≡ length (in_path_order (m v.program).path (living_with us ds))
moved_count m v law run puts us ds after h reported is_reported =
    let f = fit m v law run h.start h.begun puts us ds after h.did in
    let living = f.living in
    let n = count_in_order (m v.program).path (living_with us ds) in
    let e = ap (λ (r : PhaseRecord). r.left) is_reported in
    let p = ap (λ (r : PhaseRecord). r.parties) is_reported in
    omega (arith, living, n, e, p)

-- the run after a superstep whose puts have landed, before the next is opened
abbrev pub landed_with : {Q S : Type 0} → StretchesValue Q S → List Put → PhaseRecord → List PrintValue → ℕ → StretchesValue Q S
landed_with v puts reported after count =
    record v {
      step = v.step + 1;
      arrays = landed puts v.arrays;
      count = count;
      prints = v.prints ++ after;
      records = v.records ++ reported ∷ [];
    }

module _ {Q S T : Type 0} (m : Q → Reading S T) (v : StretchesValue Q S)
    (law : (t : S) → (m v.program).frame.path ((m v.program).meant t) ≡ (m v.program).path t) (run : status_in v ≡ None)
    (puts : List Put) (us : List S) (ds : List (DeedValue S)) (after : List PrintValue) (h : HaveRun m v puts us ds after)
    (le : length ds + spawned_in ds ≤ v.most + left_in ds) (reported : PhaseRecord) (is_reported : reported ≡ record_in v.step ds)
    (none : None ≡ over_in v.arrays [] 0 puts)
    (next : List S) (is_next : next ≡ in_path_order (m v.program).path (living_with us ds)) where
  step_landed : IsStepTo (m v.program).frame (m v.program).may v.most (state_of m v law run h.start)
      (state_with (landed_with v puts reported after (length next)) (map (m v.program).meant next)) Landed
  step_landed =
      subst (λ (st : State T). IsStepTo (m v.program).frame (m v.program).may v.most (state_of m v law run h.start) st Landed)
      (λ i. record {
        step = v.step + 1;
        arrays = landed puts v.arrays;
        live = map (m v.program).meant (sym is_next i);
        prints = v.prints ++ after;
        records = v.records ++ reported ∷ [];
        fault = sym (unfaulted m v run) i;
      })
      (goes m v law run h.start h.begun puts us ds after h.did reported le is_reported none)

  pub after_landed : IsAfter m (landed_with v puts reported after (length next)) (map (m v.program).meant next)
  after_landed =
      let f = fit m v law run h.start h.begun puts us ds after h.did in
      let living = f.living in
      let n = ap length is_next ∙ count_in_order (m v.program).path (living_with us ds) in
      let l = length-map next (m v.program).meant in
      after_next m v (landed_with v puts reported after (length next)) (map (m v.program).meant (live_of h.start))
      (map (m v.program).meant next) law h.begun run h.count step_landed.step refl refl refl refl refl (sym l)
      (omega (arith, l, n, living, le))

  pub closed_landed : (parts : List (Option (PartValue S))) → AreFresh 0 parts → tasks_in parts ≡ next → (w : StretchesValue Q S)
      → w ≡ opened_with (landed_with v puts reported after (length next)) parts → IsClosed m v w Landed
  closed_landed parts fresh tasks w e =
      subst (λ (x : StretchesValue Q S). IsClosed m v x Landed) (sym e) (record {
        start = h.start;
        older = h.older;
        log = h.is;
        live = map (m v.program).meant next;
        step = step_landed;
        leaves = (unfaulted m v run, fresh, ap (map (m v.program).meant) (sym tasks));
        same = record { named = refl; program = refl; most = refl; limit = refl };
      })

-- a run that goes on is below its limit
pub below_limit : {Q S : Type 0} (v : StretchesValue Q S) → status_in v ≡ None → v.step < v.limit
below_limit v run = by v.fault v.count run
  where
    late : (b : Bool) → (if b then Some (Limit v.step) else None) ≡ None → b ≡ false
    late true h = cc
    late false h = refl

    by : (f : Option (ℕ × List ℕ)) (n : ℕ) → status_for v.limit v.step f n ≡ None → v.step < v.limit
    by (Some f) n h = cc
    by None zero h = cc
    by None (suc n) h = let b = late (nat_le v.limit v.step) h in grind arith

-- ---- what stretches keep when they hand over

module _ {S : Type 0} where
  pub tasks_renewed : (ss : List (Option (PartValue S))) → tasks_in (map renewed ss) ≡ tasks_in ss
  tasks_renewed [] = refl
  tasks_renewed (None ∷ ss) = tasks_renewed ss
  tasks_renewed (Some part ∷ ss) = ap (λ (ts : List S). part.tasks ++ ts) (tasks_renewed ss)

  pub fresh_renewed : (done : Bool) (end at : ℕ) (ss : List (Option (PartValue S))) → covers done end at ss ≡ true
      → AreFresh at (map renewed ss)
  fresh_renewed done end at [] h = tt
  fresh_renewed done end at (None ∷ ss) h = cc
  fresh_renewed done end at (Some part ∷ ss) h =
      let a = both ((part.first == at) && is_done done part.done) (covers done end (at + length part.tasks) ss) h in
      let b = both (part.first == at) (is_done done part.done) a.0 in
      let first = at_number part.first at b.0 in
      (ap (λ (k : ℕ). fresh_part k part.tasks) first, fresh_renewed done end (at + length part.tasks) ss a.1)

  -- where no puts are left
  pub covers_on : (done : Bool) (end at : ℕ) (ss : List (Option (PartValue S)))
      → covers done end at (map without_puts ss) ≡ covers done end at ss
  covers_on done end at [] = refl
  covers_on done end at (None ∷ ss) = refl
  covers_on done end at (Some part ∷ ss) =
      ap (λ (b : Bool). (part.first == at) && is_done done part.done && b) (covers_on done end (at + length part.tasks) ss)

  pub tasks_on : (ss : List (Option (PartValue S))) → tasks_in (map without_puts ss) ≡ tasks_in ss
  tasks_on [] = refl
  tasks_on (None ∷ ss) = tasks_on ss
  tasks_on (Some part ∷ ss) = ap (λ (ts : List S). part.tasks ++ ts) (tasks_on ss)

  pub deeds_on : (ss : List (Option (PartValue S))) → deeds_in (map without_puts ss) ≡ deeds_in ss
  deeds_on [] = refl
  deeds_on (None ∷ ss) = deeds_on ss
  deeds_on (Some part ∷ ss) = ap (λ (ts : List (DeedValue S)). part.deeds ++ ts) (deeds_on ss)

  pub prints_on : (ss : List (Option (PartValue S))) → prints_in (map without_puts ss) ≡ prints_in ss
  prints_on [] = refl
  prints_on (None ∷ ss) = prints_on ss
  prints_on (Some part ∷ ss) = ap (λ (ts : List PrintValue). part.prints ++ ts) (prints_on ss)

-- the same stretches have run
pub have_same : {Q S T : Type 0} (m : Q → Reading S T)
    (v : StretchesValue Q S) {puts qs : List Put} {us ws : List S} {ds es : List (DeedValue S)} {after last : List PrintValue}
    → HaveRun m v puts us ds after
    → puts ≡ qs → us ≡ ws → ds ≡ es → after ≡ last → HaveRun m v qs ws es last
have_same m v {puts} {qs} {us} {ws} {ds} {es} {after} {last} h a b c d =
    subst (λ ps. HaveRun m v ps ws es last) a
    (subst (λ ts. HaveRun m v puts ts es last) b (subst (λ xs. HaveRun m v puts us xs last) c (subst (λ ps. HaveRun m v puts us ds ps) d h)))

-- ---- from the stretches of a superstep to what they did

module _ {Q S T : Type 0} (m : Q → Reading S T) where
  -- the same run with other stretches
  pub after_with : (v : StretchesValue Q S) (ps : List (Option (PartValue S))) (live : List T) → IsAfter m v live
      → IsAfter m (record v { parts = ps }) live
  after_with v ps live h = record {
    begun =
        record {
          first = h.begun.first;
          since = h.begun.since;
          is = h.begun.is;
          program = h.begun.program;
          most = h.begun.most;
          limit = h.begun.limit;
          paths = h.begun.paths;
        };
    reached = h.reached;
    all_open = h.all_open;
    as_long = h.as_long;
    count = h.count;
    few = h.few;
  }

  pub closed_from : (v : StretchesValue Q S) (ps : List (Option (PartValue S))) (w : StretchesValue Q S) (out : Outcome)
      → IsClosed m (record v { parts = ps }) w out → IsClosed m v w out
  closed_from v ps w out h = record {
    start = h.start;
    older = h.older;
    log = h.log;
    live = h.live;
    step = h.step;
    leaves = h.leaves;
    same = record { named = h.same.named; program = h.same.program; most = h.same.most; limit = h.same.limit };
  }

  -- stretches that cover the live tasks are those of an opened superstep
  pub open_whole : (done : Bool) (v : StretchesValue Q S) (h : IsRunSoFar m v) → covers done v.count 0 v.parts ≡ true → status_in v ≡ None
      → IsOpen m v h.live
  open_whole done v h c run = ⊎_elim none (λ o. o) h.opened
    where
      by : (f : Option (ℕ × List ℕ)) (n : ℕ) → (0 == n) ≡ true → status_for v.limit v.step f n ≡ None → ⊥
      by (Some f) n e r = cc
      by None zero e r = cc
      by None (suc n) e r = let k = at_number 0 (suc n) e in absurd (omega (arith, k))

      none : v.parts ≡ [] → IsOpen m v h.live
      none e = absurd (by v.fault v.count (sym (ap (λ (ss : List (Option (PartValue S))). covers done v.count 0 ss) e) ∙ c) run)

  module _ (v : StretchesValue Q S) (h : IsRunSoFar m v) (c : covers true v.count 0 v.parts ≡ true) (run : status_in v ≡ None) where
    abbrev pub open_now : IsOpen m v h.live
    open_now = open_whole true v h c run

    pub begun_now : IsAfter m v (map (m v.program).meant (live_of open_now.start))
    begun_now = subst (IsAfter m v) open_now.lives h.after

    pub did_now : HaveDid (m v.program) v.arrays (live_of open_now.start) v.step v.parts (live_of open_now.start)
    did_now =
        let l = length-map (live_of open_now.start) (m v.program).meant in
        let n = h.after.count ∙ ap length open_now.lives ∙ l in
        have_did (m v.program) v.arrays (live_of open_now.start) v.step v.count 0 v.parts open_now.own c n

    -- a task faulted
    pub fault_now : ((t : S) → (m v.program).frame.path ((m v.program).meant t) ≡ (m v.program).path t) → (x : ℕ × List ℕ)
        → fault_in v.parts ≡ Some x
        → IsStepTo (m v.program).frame (m v.program).may v.most (state_with v (map (m v.program).meant (live_of open_now.start)))
        (ended_by (state_with v (map (m v.program).meant (live_of open_now.start))) x) Faulted
    fault_now law x e =
        let l = did_now.loud x e in
        ends_fault m v law run open_now.start begun_now x l.0 l.1.0 l.1.1.0 l.1.1.1.0 l.1.1.1.1

-- ---- what a run leaves

module _ {S T : Type 0} (r : Reading S T) (arrays : List (List ℕ × List ℤ)) (live : List S) (step : ℕ) where
  -- stretches that haven't run and cover the live tasks have these
  pub live_still : (end at : ℕ) (ss : List (Option (PartValue S))) → AreOwn r arrays live step ss → covers false end at ss ≡ true
      → end ≡ length live → tasks_in ss ≡ drop at live
  live_still end at [] own h e = sym (ap (λ (k : ℕ). drop k live) (at_number at end h ∙ e) ∙ drop_end live)
  live_still end at (None ∷ ss) own h e = cc
  live_still end at (Some part ∷ ss) own h e =
      let a = both ((part.first == at) && not part.done) (covers false end (at + length part.tasks) ss) h in
      let b = both (part.first == at) (not part.done) a.0 in
      let first = at_number part.first at b.0 in
      let p = own.0 in
      let t = subst (λ (d : Bool). HasDone r arrays step d p.olds part) (not_done part.done b.1) p.reported in
      let tasks = ap (λ (x : PartValue S). x.tasks) t in
      let from = ap (λ (k : ℕ). drop k live) (sym first) ∙ p.live_from in
      (λ i. tasks i ++ live_still end (at + length part.tasks) ss own.1 a.1 e i)
      ∙ ap (λ (ts : List S). p.olds ++ ts) (drop_more live p.olds p.back at (length part.tasks) from (ap length tasks)) ∙ sym from
    where
      not_done : (d : Bool) → not d ≡ true → d ≡ false
      not_done true e = cc
      not_done false e = refl

-- what is said of an answer that is there
pub left_when : {L E : Type 0} (answer : Result (Option L) E) (F G : L → Type 0) (b : Bool) → IfOk answer (λ o. IfSome o F)
    → IfOk answer (λ o. is_some o ≡ b) → ((l : L) → F l → b ≡ true → G l) → IfOk answer (λ o. IfSome o G)
left_when (Ok (Some l)) F G b h s k = k l h (sym s)
left_when (Ok None) F G b h s k = tt
left_when (Err e) F G b h s k = tt

pub nothing_if : {A : Type 0} (o : Option A) → is_some o ≡ false → o ≡ None
nothing_if None e = refl
nothing_if (Some x) e = cc

same : {A : Type 0} (a b : A) → Some a ≡ Some b → a ≡ b
same {A} a b e = ap value e
  where
    value : Option A → A
    value None = a
    value (Some x) = x

module _ {Q S T : Type 0} (m : Q → Reading S T) (v : StretchesValue Q S) (h : IsRunSoFar m v) where
  -- the tasks that still live are those of the stretches
  pub living_is : (s : Status) → status_in v ≡ Some s → (tasks : List S) → tasks ≡ (if is_at_limit s then tasks_in v.parts else [])
      → (is_at_limit s ≡ true → covers false v.count 0 v.parts ≡ true)
      → living_after s h.live ≡ map (m v.program).meant tasks
  living_is (Fault code step path) e tasks t c = ap (map (m v.program).meant) (sym t)
  living_is (Ended steps) e tasks t c = none h.live (by v.fault v.count h.live e h.after.count) ∙ ap (map (m v.program).meant) (sym t)
    where
      late_not : (b : Bool) → (if b then Some (Limit v.step) else None) ≡ Some (Ended steps) → ⊥
      late_not true e = cc
      late_not false e = cc

      by : (f : Option (ℕ × List ℕ)) (n : ℕ) (ts : List T) → status_for v.limit v.step f n ≡ Some (Ended steps) → n ≡ length ts
          → length ts ≡ 0
      by (Some f) n ts e l = cc
      by None zero ts e l = sym l
      by None (suc n) ts e l = absurd (late_not (nat_le v.limit v.step) e)

      none : (ts : List T) → length ts ≡ 0 → ts ≡ []
      none [] n = refl
      none (x ∷ ts) n = absurd (omega arith)
  living_is (Limit steps) e tasks t c = by h.opened
    where
      some : (f : Option (ℕ × List ℕ)) (n : ℕ) → status_for v.limit v.step f n ≡ Some (Limit steps) → (0 == n) ≡ true → ⊥
      some (Some f) n e z = cc
      some None zero e z = cc
      some None (suc n) e z = let k = at_number 0 (suc n) z in absurd (omega (arith, k))

      by : (v.parts ≡ []) ⊎ IsOpen m v h.live → h.live ≡ map (m v.program).meant tasks
      by (inl n) = absurd (some v.fault v.count e (sym (ap (λ (ss : List (Option (PartValue S))). covers false v.count 0 ss) n) ∙ c refl))
      by (inr o) =
          let l = length-map (live_of o.start) (m v.program).meant in
          let k = h.after.count ∙ ap length o.lives ∙ l in
          o.lives
          ∙ ap (map (m v.program).meant)
          (sym (live_still (m v.program) v.arrays (live_of o.start) v.step v.count 0 v.parts o.own (c refl) k) ∙ sym t)

  -- what it leaves, taken to this limit
  record LeftBy (r : Reading S T) (most limit : ℕ) (first : SuperstepStartValue Q S) (outcome : ReportValue) (tasks : List S) : Type 0 where
    run : HasRunOn (setup_by r most first.arrays (map r.meant (live_of first)) limit) v.given outcome (map r.meant tasks)
    all_open : AllOpen r.meant v.log (states_by r most run.run.history first limit)
    as_long : length run.run.history ≤ length v.log
    counted : CountsAs outcome.status (length run.run.history)

  -- a run without a fault has taken as many supersteps as its status says
  counts : (s : Status) (n : ℕ) → status_in v ≡ Some s → (v.fault ≡ None → n ≡ v.step) → CountsAs s n
  counts s n e taken = by v.fault v.count s e taken
    where
      late : (b : Bool) (s : Status) → (if b then Some (Limit v.step) else None) ≡ Some s → s ≡ Limit v.step
      late true s e = sym (same (Limit v.step) s e)
      late false s e = cc

      by : (f : Option (ℕ × List ℕ)) (count : ℕ) (s : Status) → status_for v.limit v.step f count ≡ Some s → (f ≡ None → n ≡ v.step)
          → CountsAs s n
      by (Some f) count s e taken = subst (λ (x : Status). CountsAs x n) (same (Fault f.0 v.step f.1) s e) tt
      by None zero s e taken = subst (λ (x : Status). CountsAs x n) (same (Ended v.step) s e) (taken refl)
      by None (suc m) s e taken = subst (λ (x : Status). CountsAs x n) (sym (late (nat_le v.limit v.step) s e)) (taken refl)

  pub has_left : (law : (t : S) → (m v.program).frame.path ((m v.program).meant t) ≡ (m v.program).path t) (s : Status)
      → status_in v ≡ Some s → (tasks : List S)
      → tasks ≡ (if is_at_limit s then tasks_in v.parts else []) → (is_at_limit s ≡ true → covers false v.count 0 v.parts ≡ true)
      → (outcome : ReportValue) → outcome ≡ record { prints = v.prints; records = v.records; arrays = v.arrays; status = s }
      → HasLeft m v.log v.given outcome tasks
  has_left law s e tasks t c outcome is =
      let b = h.after.begun in
      let left : LeftBy (m v.program) v.most v.limit b.first outcome tasks =
      record {
        run =
            has_run (m v.program) law v.most b.first.arrays (map (m v.program).meant (live_of b.first)) v.limit v.given
            (state_with v h.live) h.after.reached s (status_is m v h.live h.after.count ∙ e) outcome is
            (map (m v.program).meant tasks) (living_is s e tasks t c);
        all_open = h.after.all_open;
        as_long = h.after.as_long;
        counted =
            subst (λ (x : ReportValue). CountsAs x.status (length h.after.reached.history)) (sym is)
            (counts s (length h.after.reached.history) e h.after.reached.count);
      } in
      let from =
      subst (λ (n : ℕ). LeftBy (m b.first.program) b.first.most n b.first outcome tasks) b.limit
      (subst (λ (n : ℕ). LeftBy (m b.first.program) n v.limit b.first outcome tasks) b.most
      (subst (λ (q : Q). LeftBy (m q) v.most v.limit b.first outcome tasks) b.program left)) in
      record {
        first = b.first;
        since = b.since;
        begun = b.is;
        within = omega arith;
        run = from.run;
        all_open = from.all_open;
        as_long = from.as_long;
        counted = from.counted;
      }

  module _ (run : status_in v ≡ None) (c : covers false v.count 0 v.parts ≡ true) where
    -- it is stopped where it is, while tasks live
    late : status v.step (state_with v h.live) ≡ Some (Limit v.step)
    late = by v.fault h.live (status_is m v h.live h.after.count ∙ run)
      where
        no_less : (n : ℕ) → (if nat_le n n then Some (Limit n) else None) ≡ Some (Limit n)
        no_less n = test (nat_le n n) refl
          where
            test : (b : Bool) → nat_le n n ≡ b → (if b then Some (Limit n) else None) ≡ Some (Limit n)
            test true e = refl
            test false e = absurd (let k : n < n = grind (arith, nat_tests) in omega (arith, k))

        by : (f : Option (ℕ × List ℕ)) (live : List T) → status_of v.limit v.step f live ≡ None
            → status_of v.step v.step f live ≡ Some (Limit v.step)
        by (Some f) live e = cc
        by None [] e = cc
        by None (x ∷ live) e = no_less v.step

    pub still_live : (tasks : List S) → tasks ≡ tasks_in v.parts → h.live ≡ map (m v.program).meant tasks
    still_live tasks t =
        let o = open_whole m false v h c run in
        let l = length-map (live_of o.start) (m v.program).meant in
        let k = h.after.count ∙ ap length o.lives ∙ l in
        o.lives
        ∙ ap (map (m v.program).meant)
        (sym (live_still (m v.program) v.arrays (live_of o.start) v.step v.count 0 v.parts o.own c k) ∙ sym t)

    -- what it leaves then: that of a run with a lower limit
    pub has_stopped : (law : (t : S) → (m v.program).frame.path ((m v.program).meant t) ≡ (m v.program).path t) (tasks : List S)
        → tasks ≡ tasks_in v.parts
        → (outcome : ReportValue) → outcome ≡ record { prints = v.prints; records = v.records; arrays = v.arrays; status = Limit v.step }
        → HasLeftTo m (λ o. v.step) v.log v.given outcome tasks
    has_stopped law tasks t outcome is =
        let b = h.after.begun in
        let r = h.after.reached in
        let live = map (m v.program).meant (live_of b.first) in
        let below = below_limit v run in
        let k = r.count (unfaulted m v run) in
        let long = (open_whole m false v h c run).count in
        let says = says_by (m v.program).frame v.most r.history in
        let as_before : (n : ℕ) → n ≤ v.step → so_far says b.first.arrays live v.step n ≡ so_far says b.first.arrays live v.limit n =
        λ n le. so_far_shorter (m v.program).frame v.most says b.first.arrays live v.limit v.step n (omega (arith, below)) le in
        let within = r.within in
        let shorter : IsReached (setup_by (m v.program) v.most b.first.arrays live v.step) v.given (state_with v h.live) =
        record {
          history = r.history;
          entered =
              λ n lt. subst (λ (x : State T). IsEntered (m v.program).frame (m v.program).may x (get_or r.history n []))
              (sym (as_before n (omega (arith, lt, k)))) (r.entered n lt);
          within = within;
          count = r.count;
          state =
              ap (λ (x : State T). with_earlier x (state_with v h.live)) (as_before v.given (omega (arith, within, k))) ∙ r.state
              ∙ sym (as_before (length r.history) (omega (arith, k)));
        } in
        let left : LeftBy (m v.program) v.most v.step b.first outcome tasks =
        record {
          run =
              has_run (m v.program) law v.most b.first.arrays live v.step v.given (state_with v h.live) shorter (Limit v.step) late outcome
              is (map (m v.program).meant tasks) (still_live tasks t);
          all_open =
              same_states (m v.program).meant v.log (states_by (m v.program) v.most r.history b.first v.limit)
              (states_by (m v.program) v.most r.history b.first v.step)
              (λ n lt. as_before n (omega (arith, lt, long))) h.after.all_open;
          as_long = h.after.as_long;
          counted = subst (λ (x : ReportValue). CountsAs x.status (length r.history)) (sym is) k;
        } in
        let from =
        subst (λ (n : ℕ). LeftBy (m b.first.program) n v.step b.first outcome tasks) b.most
        (subst (λ (q : Q). LeftBy (m q) v.most v.step b.first outcome tasks) b.program left) in
        let limit = b.limit in
        record {
          first = b.first;
          since = b.since;
          begun = b.is;
          within = omega (arith, below, limit);
          run = from.run;
          all_open = from.all_open;
          as_long = from.as_long;
          counted = from.counted;
        }
