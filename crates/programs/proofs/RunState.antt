-- One superstep, by what its live tasks did in their places.
use Rattle.std.proofs.Common.{◌≡◌, ℕ, ◌+◌, ◌≤◌, ◌<◌, Bool, true, false, nat_lt, List, [], ◌∷◌, ◌++◌, map, length, Option, Some, None, refl, sym, ap, ◌∙◌, arith, append-nil}
use Rattle.std.specs.Prelude.{ℤ, if◌then◌else◌}
use Rattle.std.specs.Option.{option_map}
use Rattle.std.proofs.lemmas.List.{length-map}
use Rattle.superstep_memory.specs.declared.arrays.Put.{Put}
use Rattle.superstep_memory.specs.Landing.{landed, joined, over_in}
use Rattle.superstep_memory.specs.Logs.{located}
use Rattle.superstep_memory.specs.Paths.{is_rising}
use Rattle.superstep_memory.specs.PathOrder.{in_path_order}
use Rattle.superstep_memory.proofs.Over.{at_log, first_located, over_inside, found_there}
use Rattle.phase_records.specs.declared.record.PhaseRecord.{PhaseRecord}
-- One superstep of a job on one thread.
use Rattle.std.proofs.Common.{◌≡◌, ◌==◌, ℕ, ◌+◌, ◌≤◌, ◌<◌, Bool, true, false, List, [], ◌∷◌, ◌++◌, map, length, take, Option, Some, None, refl, sym, ap, ◌∙◌, subst, arith}
use Rattle.std.specs.Prelude.{ℤ, IsSome, if◌then◌else◌}
use Rattle.superstep_memory.specs.Landing.{landed, over_in}
use Rattle.phase_records.specs.PrintValue.{PrintValue}
use Rattle.programs.specs.Meaning.{Segment, children, NumbersItsSpawns, StaysTheSameTask}
use Rattle.programs.specs.Reads.{Reads}
use Rattle.programs.specs.DeedValue.{DeedValue}
use Rattle.programs.specs.Superstep.{State, superstep, closed, ended_by, segments, first_fault, too_many, overflow, fault_eight, or_next, next_live, log_of, prints_of, record_of, live_paths}
use Rattle.programs.specs.InPlace.{AllDone, deeds_of, IsAllDone, Reported, maker, overflow_at, living_with, left_in, spawned_in, record_in}
use Rattle.programs.specs.Regroup.{AreNumbered}
use Rattle.programs.specs.RunState.{state_of_run, HasGone, HasTakenOne}
use Rattle.programs.specs.declared.steps.RunState.{RunState}
use Rattle.superstep_memory.proofs.InOrder.{put_all_mapped, count_in_order}
use Rattle.programs.proofs.InPlace.{no_fault, maker_reported, living_reported, counted}

take_front : (xs ys : List PrintValue) → take (length xs) (xs ++ ys) ≡ xs
take_front [] ys = refl
take_front (x ∷ xs) ys = ap (λ zs. x ∷ zs) (take_front xs ys)

-- what was printed in the superstep goes
pub cut_off : (n : ℕ) (xs all ys more : List PrintValue) → ys ≡ take n all → n ≡ length xs → all ≡ xs ++ more → ys ≡ xs
cut_off n xs all ys more h e a = h ∙ (λ i. take (e i) (a i)) ∙ take_front xs more

pub none_there : (n : ℕ) (b : Bool) → b ≡ (n == 0) → b ≡ true → n ≡ 0
none_there n b h t = grind arith

pub some_there : (n : ℕ) (b : Bool) → b ≡ (n == 0) → b ≡ false → 0 < n
some_there n b h t = grind arith

pub is_there : {A : Type 0} {o : Option A} {x : A} → o ≡ Some x → IsSome o
is_there {o = None} h = cc
is_there {o = Some y} h = refl

module _ {S T : Type 0} (p : Reads S T) (law : (t : S) → p.says.path (p.meant t) ≡ p.path t) (numbers : NumbersItsSpawns p.says)
    (stays : StaysTheSameTask p.says) where
  -- what the live tasks of a state do
  abbrev pub deeds_at : State T → List (List ℕ × Segment T)
  deeds_at st = segments p.says st.arrays st.step st.live

  pub none_faults : (us : List S) (ds : List (DeedValue S)) (ss : List (List ℕ × Segment T)) → AllDone p us ds ss → first_fault ss ≡ None
  none_faults us ds ss h = ap first_fault (sym (append-nil ss)) ∙ no_fault p us ds ss [] h

  -- the next live tasks as they are in memory
  pub next_reported : (us : List S) (ds : List (DeedValue S)) (ss : List (List ℕ × Segment T)) → AllDone p us ds ss
      → map p.meant (in_path_order p.path (living_with us ds)) ≡ next_live p.says.path ss
  next_reported us ds ss h =
      put_all_mapped p.path p.says.path p.meant law (living_with us ds) []
      ∙ ap (in_path_order p.says.path) (living_reported p us ds ss h)

  pub next_count : (us : List S) (ds : List (DeedValue S)) (ss : List (List ℕ × Segment T)) → AllDone p us ds ss
      → length (next_live p.says.path ss) ≡ length (living_with us ds)
  next_count us ds ss h =
      ap length (sym (next_reported us ds ss h))
      ∙ length-map (in_path_order p.path (living_with us ds)) p.meant
      ∙ count_in_order p.path (living_with us ds)

  -- a fault ends the job
  pub by_fault_in : (st : State T) (f : ℕ × List ℕ) → first_fault (deeds_at st) ≡ Some f → superstep p.says st ≡ ended_by st f
  by_fault_in st f h =
      ap
      (λ o. closed p.says.path st (deeds_at st) (or_next o (or_next (too_many p.says.most (next_live p.says.path (deeds_at st))) (overflow st.arrays (deeds_at st)))))
      h

  pub not_many : (ts : List T) → nat_lt p.says.most (length ts) ≡ false → too_many p.says.most ts ≡ None
  not_many ts b = ap (λ (t : Bool). if t then Some (7, []) else None) b

  pub are_many : (ts : List T) → nat_lt p.says.most (length ts) ≡ true → too_many p.says.most ts ≡ Some (7, [])
  are_many ts b = ap (λ (t : Bool). if t then Some (7, []) else None) b

  -- the faults that a superstep is looked through for
  pub many_reported : (st : State T) (us : List S) (ds : List (DeedValue S)) → AllDone p us ds (deeds_at st)
      → p.says.most < length (living_with us ds)
      → too_many p.says.most (next_live p.says.path (deeds_at st)) ≡ Some (7, [])
  many_reported st us ds h lt =
      let l = next_count us ds (deeds_at st) h in
      let b : nat_lt p.says.most (length (next_live p.says.path (deeds_at st))) ≡ true = grind arith in
      are_many (next_live p.says.path (deeds_at st)) b

  pub few_reported : (st : State T) (us : List S) (ds : List (DeedValue S)) → AllDone p us ds (deeds_at st)
      → length (living_with us ds) ≤ p.says.most
      → too_many p.says.most (next_live p.says.path (deeds_at st)) ≡ None
  few_reported st us ds h le =
      let l = next_count us ds (deeds_at st) h in
      let b : nat_lt p.says.most (length (next_live p.says.path (deeds_at st))) ≡ false = grind arith in
      not_many (next_live p.says.path (deeds_at st)) b

  -- too many tasks end it
  pub by_many_in : (st : State T) (us : List S) (ds : List (DeedValue S)) → AllDone p us ds (deeds_at st)
      → p.says.most < length (living_with us ds)
      → superstep p.says st ≡ ended_by st (7, [])
  by_many_in st us ds h lt =
      λ i. closed p.says.path st (deeds_at st)
      (or_next (none_faults us ds (deeds_at st) h i) (or_next (many_reported st us ds h lt i) (overflow st.arrays (deeds_at st))))

  -- what the log says is what the segments say
  pub over_reported : (st : State T) (puts : List Put) → puts ≡ joined (map log_of (deeds_at st)) → (o : Option ℕ)
      → o ≡ over_in st.arrays [] 0 puts
      → overflow st.arrays (deeds_at st) ≡ option_map fault_eight (at_log (map log_of (deeds_at st)) o)
  over_reported st puts log o e =
      let logs = map log_of (deeds_at st) in
      ap (option_map fault_eight)
      (first_located st.arrays logs ∙ ap (λ (qs : List Put). at_log logs (over_in st.arrays [] 0 qs)) (sym log) ∙ ap (at_log logs) (sym e))

  -- a fault of a put that overflows ends it
  pub record IsOver (st : State T) (fault : Option (ℕ × List ℕ)) : Type 0 where
    pub blame : ℕ × List ℕ
    pub is : fault ≡ Some blame
    pub over : overflow st.arrays (deeds_at st) ≡ Some blame
    pub ends : superstep p.says st ≡ ended_by st blame

  -- the first put that overflows ends it
  pub by_over_in : (st : State T) (puts : List Put) (us : List S) (ds : List (DeedValue S)) (place : ℕ) (fault : Option (ℕ × List ℕ))
      → AllDone p us ds (deeds_at st) → puts ≡ joined (map log_of (deeds_at st)) → length (living_with us ds) ≤ p.says.most
      → Some place ≡ over_in st.arrays [] 0 puts → fault ≡ option_map overflow_at (maker p.path us ds place)
      → IsOver st fault
  by_over_in st puts us ds place fault h log le over made = by fault (made ∙ sym (maker_reported p us ds ss h place)) (sym reported)
    where
      ss : List (List ℕ × Segment T)
      ss = deeds_at st

      reported : overflow st.arrays ss ≡ option_map fault_eight (located (map log_of ss) place)
      reported = over_reported st puts log (Some place) over

      inside : place < length (joined (map log_of ss))
      inside = let m = over_inside st.arrays [] 0 place puts (sym over) in let l = ap length log in omega (arith, m.1, l)

      not_none : (o : Option (List ℕ × ℕ)) → None ≡ option_map fault_eight o → o ≡ None
      not_none None e = refl
      not_none (Some x) e = cc

      by : (o : Option (ℕ × List ℕ)) → o ≡ option_map fault_eight (located (map log_of ss) place)
          → option_map fault_eight (located (map log_of ss) place) ≡ overflow st.arrays ss
          → IsOver st o
      by None e t = absurd (found_there (map log_of ss) place inside (not_none (located (map log_of ss) place) e))
      by (Some f) e t = record {
        blame = f;
        is = refl;
        over = sym (e ∙ t);
        ends = λ i. closed p.says.path st ss (or_next (none_faults us ds ss h i) (or_next (few_reported st us ds h le i) (sym (e ∙ t) i)));
      }

  -- the record that was made is that of the segments
  pub record_reported : (st : State T) (us : List S) (ds : List (DeedValue S)) → AllDone p us ds (deeds_at st)
      → record_in st.step ds ≡ record_of st.step (deeds_at st)
  record_reported st us ds h =
      let k = counted p us ds (deeds_at st) h in
      λ i. record { phase = st.step; parties = k.deeds i + k.born i; left = k.stopped i; spawned = k.born i }

  -- no put overflows
  pub none_over : (st : State T) (puts : List Put) → puts ≡ joined (map log_of (deeds_at st)) → None ≡ over_in st.arrays [] 0 puts
      → overflow st.arrays (deeds_at st) ≡ None
  none_over st puts log over = over_reported st puts log None over

  -- or it goes on
  pub by_landing_in : (st : State T) (puts : List Put) (us : List S) (ds : List (DeedValue S)) (reported : PhaseRecord)
      → AllDone p us ds (deeds_at st) → puts ≡ joined (map log_of (deeds_at st)) → length (living_with us ds) ≤ p.says.most
      → reported ≡ record_in st.step ds → None ≡ over_in st.arrays [] 0 puts
      → superstep p.says st ≡ record {
        step = st.step + 1;
        arrays = landed puts st.arrays;
        live = map p.meant (in_path_order p.path (living_with us ds));
        prints = st.prints ++ prints_of st.step (deeds_at st);
        records = st.records ++ reported ∷ [];
        fault = None;
      }
  by_landing_in st puts us ds reported h log le et over =
      let ss = deeds_at st in
      (λ i. closed p.says.path st ss (or_next (none_faults us ds ss h i) (or_next (few_reported st us ds h le i) (none_over st puts log over i))))
      ∙ (λ i. record {
        step = st.step + 1;
        arrays = landed (sym log i) st.arrays;
        live = sym (next_reported us ds ss h) i;
        prints = st.prints ++ prints_of st.step ss;
        records = st.records ++ sym (et ∙ record_reported st us ds h) i ∷ [];
        fault = None;
      })

  -- tasks keep their paths
  paths_kept : (arrays : List (List ℕ × List ℤ)) (step : ℕ) (live : List T) (us : List S) (ds : List (DeedValue S))
      → AllDone p us ds (segments p.says arrays step live)
      → map p.path us ≡ map p.says.path live
  paths_kept arrays step [] [] ds h = refl
  paths_kept arrays step [] (u ∷ us) [] h = absurd h
  paths_kept arrays step [] (u ∷ us) (d ∷ ds) h = absurd h
  paths_kept arrays step (t ∷ live) [] [] h = absurd h
  paths_kept arrays step (t ∷ live) [] (d ∷ ds) h = absurd h
  paths_kept arrays step (t ∷ live) (u ∷ us) [] h = absurd h
  paths_kept arrays step (t ∷ live) (u ∷ us) (d ∷ ds) h = λ i. h.0 i ∷ paths_kept arrays step live us ds h.2 i

  -- the numbers fit
  pub record Fits (us : List S) (ds : List (DeedValue S)) : Type 0 where
    pub few : length ds ≤ p.says.most
    pub same : length us ≡ length ds
    pub living : length (living_with us ds) + left_in ds ≡ length ds + spawned_in ds
    pub rising : is_rising (map p.path us) ≡ true
    pub numbered : AreNumbered p.path us ds

  -- tasks number those that they spawn
  numbered_reported : (arrays : List (List ℕ × List ℤ)) (step : ℕ) (live : List T) (us : List S) (ds : List (DeedValue S))
      → AllDone p us ds (segments p.says arrays step live)
      → AreNumbered p.path us ds
  numbered_reported arrays step live [] ds h = tt
  numbered_reported arrays step live (u ∷ us) [] h = tt
  numbered_reported arrays step [] (u ∷ us) (d ∷ ds) h = absurd h
  numbered_reported arrays step (t ∷ live) (u ∷ us) (d ∷ ds) h =
      let spawned = (p.says.segment t arrays step).spawns in
      let count : length spawned ≡ length d.spawns = ap length (sym h.1.0) ∙ length-map d.spawns p.meant in (
        (
          p.says.begun t,
          read d.spawns ∙ ap (map p.says.path) h.1.0 ∙ numbers t arrays step ∙ (λ i. children (sym h.0 i) (p.says.begun t) (count i)),
        ),
        numbered_reported arrays step live us ds h.2,
      )
    where
      read : (ts : List S) → map p.path ts ≡ map p.says.path (map p.meant ts)
      read [] = refl
      read (x ∷ ts) = λ i. sym (law x) i ∷ read ts i

  pub fits_in : (st : State T) (us : List S) (ds : List (DeedValue S)) → AllDone p us ds (deeds_at st)
      → length st.live ≤ p.says.most → is_rising (live_paths p.says st) ≡ true → Fits us ds
  fits_in st us ds h le r =
      let k = counted p us ds (deeds_at st) h in
      let e = paths_kept st.arrays st.step st.live us ds h in
      let l : length us ≡ length st.live = sym (length-map us p.path) ∙ ap length e ∙ length-map st.live p.says.path in
      let s = k.tasks in
      record {
        few = omega (arith, l, s, le);
        same = k.tasks;
        living = k.living;
        rising = ap is_rising e ∙ r;
        numbered = numbered_reported st.arrays st.step st.live us ds h;
      }

  -- who lives on and who left are those that the record counts
  pub tallied_in : (step : ℕ) (us : List S) (ds : List (DeedValue S)) (reported : PhaseRecord) → Fits us ds → reported ≡ record_in step ds
      → length (living_with us ds) + reported.left ≡ reported.parties
  tallied_in step us ds reported f e =
      ap (λ (n : ℕ). length (living_with us ds) + n) (ap (λ (r : PhaseRecord). r.left) e) ∙ f.living
      ∙ sym (ap (λ (r : PhaseRecord). r.parties) e)

  -- paths as they are read
  paths_read : (ts : List S) → map p.path ts ≡ map p.says.path (map p.meant ts)
  paths_read [] = refl
  paths_read (t ∷ ts) = λ i. sym (law t) i ∷ paths_read ts i

  -- deeds are the segments of what the tasks mean
  pub deeds_reported : (arrays : List (List ℕ × List ℤ)) (step : ℕ) (ts : List S)
      → deeds_of p arrays step ts ≡ segments p.says arrays step (map p.meant ts)
  deeds_reported arrays step [] = refl
  deeds_reported arrays step (t ∷ ts) = λ i. (sym (law t) i, p.says.segment (p.meant t) arrays step) ∷ deeds_reported arrays step ts i

  -- what these tasks do
  abbrev pub deeds_in : RunState S → List (List ℕ × Segment T)
  deeds_in c = segments p.says c.arrays c.step (map p.meant c.tasks.items)

  -- a fault ends the job
  pub by_fault : (c : RunState S) (f : ℕ × List ℕ) → first_fault (deeds_in c) ≡ Some f
      → superstep p.says (state_of_run p c) ≡ ended_by (state_of_run p c) f
  by_fault c f h = by_fault_in (state_of_run p c) f h

  -- too many tasks end it
  pub by_many : (c : RunState S) (us : List S) (ds : List (DeedValue S)) → AllDone p us ds (deeds_in c)
      → p.says.most < length (living_with us ds)
      → superstep p.says (state_of_run p c) ≡ ended_by (state_of_run p c) (7, [])
  by_many c us ds h lt = by_many_in (state_of_run p c) us ds h lt

  -- the first put that overflows ends it
  pub by_over : (old new : RunState S) (puts : List Put) (us : List S) (ds : List (DeedValue S)) (after : List PrintValue) (place : ℕ)
      (fault : Option (ℕ × List ℕ))
      → IsAllDone p (deeds_in old) old.step puts us ds old.prints.items after → length (living_with us ds) ≤ p.says.most
      → Some place ≡ over_in old.arrays [] 0 puts → fault ≡ option_map overflow_at (maker p.path us ds place)
      → new.step ≡ old.step → new.arrays ≡ old.arrays → new.prints.items ≡ old.prints.items → new.records.items ≡ old.records.items
      → HasTakenOne p fault old new
  by_over old new puts us ds after place fault h le over made es ea ep er =
      let o = by_over_in (state_of_run p old) puts us ds place fault h.done h.log le over made in
      subst (λ (x : Option (ℕ × List ℕ)). HasTakenOne p x old new) (sym o.is)
      (record { fault = o.ends; step = es; arrays = ea; prints = ep; records = er })

  -- or it goes on
  pub by_landing : (old new : RunState S) (puts : List Put) (us : List S) (ds : List (DeedValue S)) (after : List PrintValue)
      (reported : PhaseRecord)
      → IsAllDone p (deeds_in old) old.step puts us ds old.prints.items after → length (living_with us ds) ≤ p.says.most
      → reported ≡ record_in old.step ds
      → None ≡ over_in old.arrays [] 0 puts
      → new.step ≡ old.step + 1 → new.arrays ≡ landed puts old.arrays → new.tasks.items ≡ in_path_order p.path (living_with us ds)
      → new.prints.items ≡ after → new.records.items ≡ old.records.items ++ reported ∷ [] → HasGone p old new
  by_landing old new puts us ds after reported h le et over es ea ek ep er =
      record {
        state =
            (λ i. record {
              step = es i;
              arrays = ea i;
              live = map p.meant (ek i);
              prints = (ep ∙ h.shown) i;
              records = er i;
              fault = None;
            })
            ∙ sym (by_landing_in (state_of_run p old) puts us ds reported h.done h.log le et over);
        step = es;
        few = let c = ap length ek ∙ count_in_order p.path (living_with us ds) in omega (arith, c, le);
      }

  -- if no fault was reported all tasks did their segments
  pub did : (old : RunState S) (o : Option (ℕ × List ℕ)) (puts : List Put) (us : List S) (ds : List (DeedValue S)) (after : List PrintValue)
      → Reported p (deeds_of p old.arrays old.step old.tasks.items) old.step o puts us ds old.prints.items after → o ≡ None
      → IsAllDone p (deeds_in old) old.step puts us ds old.prints.items after
  did old o puts us ds after h e =
      subst (λ x. Reported p (deeds_in old) old.step x puts us ds old.prints.items after) e
      (subst (λ ss. Reported p ss old.step o puts us ds old.prints.items after) (deeds_reported old.arrays old.step old.tasks.items) h)

  -- if one was reported it is the first, and what was printed before stays in front
  pub faulted : (old : RunState S) (o : Option (ℕ × List ℕ)) (f : ℕ × List ℕ) (puts : List Put) (us : List S) (ds : List (DeedValue S))
      (after : List PrintValue)
      → Reported p (deeds_of p old.arrays old.step old.tasks.items) old.step o puts us ds old.prints.items after → o ≡ Some f
      → (first_fault (deeds_in old) ≡ Some f) × ((more : List PrintValue) × (after ≡ old.prints.items ++ more))
  faulted old o f puts us ds after h e =
      subst (λ x. Reported p (deeds_in old) old.step x puts us ds old.prints.items after) e
      (subst (λ ss. Reported p ss old.step o puts us ds old.prints.items after) (deeds_reported old.arrays old.step old.tasks.items) h)

  pub fits : (old : RunState S) (us : List S) (ds : List (DeedValue S)) → AllDone p us ds (deeds_in old)
      → length old.tasks.items ≤ p.says.most → is_rising (map p.path old.tasks.items) ≡ true → Fits us ds
  fits old us ds h le r =
      let l = length-map old.tasks.items p.meant in
      fits_in (state_of_run p old) us ds h (omega (arith, l, le)) (ap is_rising (sym (paths_read old.tasks.items)) ∙ r)

  -- who lives on and who left are those that the record counts
  pub tallied : (old : RunState S) (us : List S) (ds : List (DeedValue S)) (reported : PhaseRecord) → Fits us ds
      → reported ≡ record_in old.step ds
      → length (living_with us ds) + reported.left ≡ reported.parties
  tallied old us ds reported f e = tallied_in old.step us ds reported f e
