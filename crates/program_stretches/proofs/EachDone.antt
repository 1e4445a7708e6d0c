-- What the tasks of each stretch did.
use Rattle.std.proofs.Common.{◌≡◌, ℕ, zero, suc, ◌+◌, true, false, Result, Ok, Err, List, [], ◌∷◌, ◌++◌, map, length, drop, Option, Some, None, refl, sym, ap, ◌∙◌, subst, arith, append_assoc}
use Rattle.std.specs.Prelude.{ℤ, ◌==◌, ◌&&◌, OnOk}
use Rattle.std.proofs.lemmas.List.{length-map, map-append}
use Rattle.superstep_memory.specs.Paths.{is_rising}
use Rattle.superstep_memory.proofs.PathOrder.{rising_rest}
use Rattle.programs.specs.Meaning.{Says}
use Rattle.programs.specs.Reads.{reads}
use Rattle.programs.specs.DeedValue.{DeedValue}
use Rattle.programs.specs.Regroup.{AreNumbered}
use Rattle.programs.specs.Superstep.{State, or_next}
use Rattle.programs.specs.InPlace.{AllDone, deeds_of, kept, living_with, left_in, spawned_in, made_in}
use Rattle.programs.specs.History.{AreOf, says_in}
use Rattle.programs.proofs.RunState.{deeds_reported, fits_in}
use Rattle.programs.proofs.History.{agrees, all_formed, entries_rise, numbers_in, rising_front, stays_in}
use Rattle.programs.proofs.InPlace.{all_stay, counted, paths_kept}
use Rattle.programs.proofs.Reached.{starts_read}
use Rattle.program_stretches.specs.PartValue.{PartValue}
use Rattle.program_stretches.specs.Parts.{Reading, HasRun, HasDone, IsPartOf, AreOwn, EachDid, fresh_part, covers, fault_in, tasks_in, deeds_in, living_in, without_puts, without_prints}
use Rattle.program_stretches.specs.Next.{CanSettle, CanAllSettle}
use Rattle.program_stretches.specs.SuperstepStart.{live_of}
use Rattle.program_stretches.specs.Did.{DidAll}
use Rattle.program_stretches.specs.StretchesValue.{StretchesValue, state_with, IsAfter}
use Rattle.program_stretches.proofs.Along.{both}
use Rattle.program_stretches.proofs.Finding.{AreKnown, made_all}
use Rattle.program_stretches.proofs.Whole.{ran_all}
use Rattle.program_stretches.proofs.Taken.{paths_rise}

-- ---- the tasks of one stretch

module _ {S T : Type 0} (r : Reading S T) (law : (t : S) → r.frame.path (r.meant t) ≡ r.path t) where
  paths_read : (ts : List S) → map r.frame.path (map r.meant ts) ≡ map r.path ts
  paths_read [] = refl
  paths_read (t ∷ ts) = λ i. law t i ∷ paths_read ts i

  pub read_rise : (live : List T) (ts : List S) → live ≡ map r.meant ts → is_rising (map r.frame.path live) ≡ true
      → is_rising (map r.path ts) ≡ true
  read_rise live ts e h = sym (ap (λ (xs : List T). is_rising (map r.frame.path xs)) e ∙ ap is_rising (paths_read ts)) ∙ h

  drop_rise : (k : ℕ) (ts : List S) → is_rising (map r.path ts) ≡ true → is_rising (map r.path (drop k ts)) ≡ true
  drop_rise zero ts h = h
  drop_rise (suc k) [] h = h
  drop_rise (suc k) (t ∷ ts) h = drop_rise k ts (rising_rest (r.path t) (map r.path ts) h)

  -- some of the live tasks, one after another
  pub olds_rise : (live olds back : List S) (k : ℕ) → drop k live ≡ olds ++ back → is_rising (map r.path live) ≡ true
      → is_rising (map r.path olds) ≡ true
  olds_rise live olds back k e h =
      rising_front r.frame (map r.path olds) (map r.path back)
      (sym (ap (λ (ts : List S). is_rising (map r.path ts)) e ∙ ap is_rising (map-append r.path olds back)) ∙ drop_rise k live h)

  module _ (arrays : List (List ℕ × List ℤ)) (step : ℕ) where
    -- each task did its segment
    pub record DidEach (olds us : List S) (ds : List (DeedValue S)) : Type 0 where
      pub says : Says T
      pub done : AllDone (reads says r.meant r.path) us ds (deeds_of (reads says r.meant r.path) arrays step olds)

    pub did_each : (olds : List S) (part : PartValue S) → is_rising (map r.path olds) ≡ true → HasRun r arrays step olds part
        → length part.tasks ≡ length olds → part.fault ≡ None
        → DidEach olds part.tasks part.deeds
    did_each olds part rise h same none =
        let d =
        subst (λ (o : Option (ℕ × List ℕ)). DidAll r arrays step o part.puts olds part.tasks part.deeds part.prints) none
        (ran_all r arrays step olds part h same) in
        let are : AreOf r.frame (map r.meant olds) d.entries = record {
          back = map r.meant d.back;
          cut = ap (map r.meant) d.cut ∙ map-append r.meant d.done d.back ∙ ap (λ (xs : List T). xs ++ map r.meant d.back) (sym d.tasks);
          whole = λ e. ap (map r.meant) (d.whole refl);
        } in
        let rises = entries_rise r.frame (map r.meant olds) d.entries are (ap is_rising (paths_read olds) ∙ rise) in
        record {
          says = says_in r.frame 0 d.entries;
          done = (d.reported (says_in r.frame 0 d.entries) (agrees r.frame 0 arrays step d.entries rises)).done;
        }

    -- and made as many puts as its deed says
    pub puts_each : (olds : List S) (part : PartValue S) → is_rising (map r.path olds) ≡ true → HasRun r arrays step olds part
        → length part.tasks ≡ length olds → part.fault ≡ None
        → made_in part.deeds ≡ length part.puts
    puts_each olds part rise h same none =
        let d =
        subst (λ (o : Option (ℕ × List ℕ)). DidAll r arrays step o part.puts olds part.tasks part.deeds part.prints) none
        (ran_all r arrays step olds part h same) in
        let are : AreOf r.frame (map r.meant olds) d.entries = record {
          back = map r.meant d.back;
          cut = ap (map r.meant) d.cut ∙ map-append r.meant d.done d.back ∙ ap (λ (xs : List T). xs ++ map r.meant d.back) (sym d.tasks);
          whole = λ e. ap (map r.meant) (d.whole refl);
        } in
        let rises = entries_rise r.frame (map r.meant olds) d.entries are (ap is_rising (paths_read olds) ∙ rise) in
        let says = says_in r.frame 0 d.entries in
        let all = d.reported says (agrees r.frame 0 arrays step d.entries rises) in
        made_all (reads says r.meant r.path) part.tasks part.deeds (deeds_of (reads says r.meant r.path) arrays step olds) all.done
        ∙ ap length (sym all.log)

    pub deeds_each : (olds us : List S) (ds : List (DeedValue S)) → DidEach olds us ds → length us ≡ length ds
    deeds_each olds us ds d =
        (counted (reads d.says r.meant r.path) us ds (deeds_of (reads d.says r.meant r.path) arrays step olds) d.done).tasks

    -- tasks that ran keep their paths
    pub paths_each : (olds : List S) (part : PartValue S) → is_rising (map r.path olds) ≡ true → HasRun r arrays step olds part
        → length part.tasks ≡ length olds → part.fault ≡ None
        → map r.path part.tasks ≡ map r.path olds
    paths_each olds part rise h same none =
        let d = did_each olds part rise h same none in
        paths_kept (reads d.says r.meant r.path) arrays step olds part.tasks part.deeds d.done

    -- the paths of tasks that ran rise, and those that they spawned are numbered
    pub record FitsEach (us : List S) (ds : List (DeedValue S)) : Type 0 where
      pub same : length us ≡ length ds
      pub rising : is_rising (map r.path us) ≡ true
      pub numbered : AreNumbered r.path us ds

    pub each_fits : (olds : List S) (part : PartValue S) → is_rising (map r.path olds) ≡ true → HasRun r arrays step olds part
        → length part.tasks ≡ length olds → part.fault ≡ None
        → FitsEach part.tasks part.deeds
    each_fits olds part rise h same none =
        let d =
        subst (λ (o : Option (ℕ × List ℕ)). DidAll r arrays step o part.puts olds part.tasks part.deeds part.prints) none
        (ran_all r arrays step olds part h same) in
        let are : AreOf r.frame (map r.meant olds) d.entries = record {
          back = map r.meant d.back;
          cut = ap (map r.meant) d.cut ∙ map-append r.meant d.done d.back ∙ ap (λ (xs : List T). xs ++ map r.meant d.back) (sym d.tasks);
          whole = λ e. ap (map r.meant) (d.whole refl);
        } in
        let rises = entries_rise r.frame (map r.meant olds) d.entries are (ap is_rising (paths_read olds) ∙ rise) in
        let most = length olds in
        let says = says_in r.frame most d.entries in
        let formed = all_formed r.frame r.may arrays step d.entries d.allowed in
        let numbers = numbers_in r.frame most d.entries formed in
        let stays = stays_in r.frame most d.entries formed in
        let p = reads says r.meant r.path in
        let st : State T = record { step = step; arrays = arrays; live = map r.meant olds; prints = []; records = []; fault = None } in
        let done =
        subst (AllDone p part.tasks part.deeds) (deeds_reported p law numbers stays arrays step olds)
        (d.reported says (agrees r.frame most arrays step d.entries rises)).done in
        let l = length-map olds r.meant in
        let f = fits_in p law numbers stays st part.tasks part.deeds done (omega (arith, l)) (ap is_rising (paths_read olds) ∙ rise) in
        record { same = f.same; rising = f.rising; numbered = f.numbered }

    module _ (live : List S) (rise : is_rising (map r.path live) ≡ true) where
      -- those of a stretch that has run have their deeds
      pub part_did : (part : PartValue S) → IsPartOf r arrays live step part → part.done ≡ true → part.fault ≡ None
          → length part.tasks ≡ length part.deeds
      part_did part p done none =
          let t = subst (λ b. HasDone r arrays step b p.olds part) done p.reported in
          deeds_each p.olds part.tasks part.deeds
          (did_each p.olds part (olds_rise live p.olds p.back part.first p.live_from rise) t.0 t.1 none)

      -- and number those that they spawned
      pub part_settles : (part : PartValue S) → IsPartOf r arrays live step part → part.done ≡ true → part.fault ≡ None
          → CanSettle r.path part
      part_settles part p done none =
          let t = subst (λ b. HasDone r arrays step b p.olds part) done p.reported in
          let rises = olds_rise live p.olds p.back part.first p.live_from rise in
          let f = each_fits p.olds part rises t.0 t.1 none in
          record { done = done; same = f.same; rising = f.rising; numbered = f.numbered }

      -- and made as many puts as their deeds say
      pub part_made : (part : PartValue S) → IsPartOf r arrays live step part → part.done ≡ true → part.fault ≡ None
          → made_in part.deeds ≡ length part.puts
      part_made part p done none =
          let t = subst (λ b. HasDone r arrays step b p.olds part) done p.reported in
          puts_each p.olds part (olds_rise live p.olds p.back part.first p.live_from rise) t.0 t.1 none

      -- if all stay, the same tasks live
      pub part_stays : (part : PartValue S) → IsPartOf r arrays live step part → part.done ≡ true → part.fault ≡ None
          → left_in part.deeds ≡ 0 → spawned_in part.deeds ≡ 0
          → living_with part.tasks part.deeds ≡ part.tasks
      part_stays part p done none a b = all_stay part.tasks part.deeds (part_did part p done none) a b

      -- those of a stretch that hadn't run keep their paths, if it ran without a fault
      pub run_keeps : {X E : Type 0} (answer : Result X E) (old new : PartValue S) → IsPartOf r arrays live step old → old.done ≡ false
          → OnOk answer (HasRun r arrays step old.tasks new) → OnOk answer (length new.tasks ≡ length old.tasks)
          → OnOk answer (new.fault ≡ None → map r.path new.tasks ≡ map r.path old.tasks)
      run_keeps (Ok x) old new p n ran count =
          let fresh : old ≡ fresh_part old.first p.olds = subst (λ b. HasDone r arrays step b p.olds old) n p.reported in
          let tasks = ap (λ (q : PartValue S). q.tasks) fresh in
          let rises = ap (λ (ts : List S). is_rising (map r.path ts)) tasks ∙ olds_rise live p.olds p.back old.first p.live_from rise in
          λ none. paths_each old.tasks new rises ran count none
      run_keeps (Err e) old new p n ran count = tt

      none_first : (a b : Option (ℕ × List ℕ)) → or_next a b ≡ None → (a ≡ None) × (b ≡ None)
      none_first None b h = (refl, h)
      none_first (Some f) b h = cc

      -- and so have those of all stretches
      pub each_did : (end at : ℕ) (ss : List (Option (PartValue S))) → AreOwn r arrays live step ss → covers true end at ss ≡ true
          → fault_in ss ≡ None → EachDid ss
      each_did end at [] own h none = tt
      each_did end at (None ∷ ss) own h none = cc
      each_did end at (Some part ∷ ss) own h none =
          let a = both ((part.first == at) && part.done) (covers true end (at + length part.tasks) ss) h in
          let b = both (part.first == at) part.done a.0 in
          let n = none_first part.fault (fault_in ss) none in
          (n.0, part_did part own.0 b.1 n.0, each_did end (at + length part.tasks) ss own.1 a.1 n.1)

      -- and all of them can be settled
      pub each_can : (end at : ℕ) (ss : List (Option (PartValue S))) → AreOwn r arrays live step ss → covers true end at ss ≡ true
          → fault_in ss ≡ None → CanAllSettle r.path ss
      each_can end at [] own h none = tt
      each_can end at (None ∷ ss) own h none = cc
      each_can end at (Some part ∷ ss) own h none =
          let a = both ((part.first == at) && part.done) (covers true end (at + length part.tasks) ss) h in
          let b = both (part.first == at) part.done a.0 in
          let n = none_first part.fault (fault_in ss) none in
          (part_settles part own.0 b.1 n.0, each_can end (at + length part.tasks) ss own.1 a.1 n.1)

      -- and it is known who made which puts
      pub each_known : (end at : ℕ) (ss : List (Option (PartValue S))) → AreOwn r arrays live step ss → covers true end at ss ≡ true
          → fault_in ss ≡ None → AreKnown ss
      each_known end at [] own h none = tt
      each_known end at (None ∷ ss) own h none = cc
      each_known end at (Some part ∷ ss) own h none =
          let a = both ((part.first == at) && part.done) (covers true end (at + length part.tasks) ss) h in
          let b = both (part.first == at) part.done a.0 in
          let n = none_first part.fault (fault_in ss) none in
          (own.0.sets, part_made part own.0 b.1 n.0, each_known end (at + length part.tasks) ss own.1 a.1 n.1)

module _ {Q S T : Type 0} (m : Q → Reading S T) (v : StretchesValue Q S)
    (law : (t : S) → (m v.program).frame.path ((m v.program).meant t) ≡ (m v.program).path t) where
  -- the paths of live tasks rise
  pub live_rise : (live : List T) → IsAfter m v live → (ts : List S) → live ≡ map (m v.program).meant ts
      → is_rising (map (m v.program).path ts) ≡ true
  live_rise live h ts e =
      read_rise (m v.program) law live ts e
      (paths_rise (m v.program) law v.most h.begun.first.arrays (map (m v.program).meant (live_of h.begun.first)) v.limit v.given
      (starts_read (m v.program).frame (m v.program).meant (m v.program).path law (live_of h.begun.first) h.begun.paths) (state_with v live)
      h.reached)

-- ---- stretches one after another

module _ {S : Type 0} where
  living_append : (us ws : List S) (ds es : List (DeedValue S)) → length us ≡ length ds
      → living_with (us ++ ws) (ds ++ es) ≡ living_with us ds ++ living_with ws es
  living_append [] ws [] es l = refl
  living_append [] ws (d ∷ ds) es l = absurd (omega arith)
  living_append (u ∷ us) ws [] es l = absurd (omega arith)
  living_append (u ∷ us) ws (d ∷ ds) es l =
      ap (λ (ts : List S). (kept d.synced u ++ d.spawns) ++ ts) (living_append us ws ds es (omega arith))
      ∙ sym (append_assoc (kept d.synced u ++ d.spawns) (living_with us ds) (living_with ws es))

  -- those that live after all stretches live after each of them
  pub living_joined : (ss : List (Option (PartValue S))) → EachDid ss → living_with (tasks_in ss) (deeds_in ss) ≡ living_in ss
  living_joined [] h = refl
  living_joined (None ∷ ss) h = living_joined ss h
  living_joined (Some part ∷ ss) h =
      living_append part.tasks (tasks_in ss) part.deeds (deeds_in ss) h.1
      ∙ ap (λ (ts : List S). living_with part.tasks part.deeds ++ ts) (living_joined ss h.2)

  -- it is the same whether puts were moved away
  each_kept : (ss : List (Option (PartValue S))) → EachDid ss → EachDid (map without_puts ss)
  each_kept [] h = tt
  each_kept (None ∷ ss) h = each_kept ss h
  each_kept (Some part ∷ ss) h = (h.0, h.1, each_kept ss h.2)

  each_before : (ss : List (Option (PartValue S))) → EachDid (map without_puts ss) → EachDid ss
  each_before [] h = tt
  each_before (None ∷ ss) h = each_before ss h
  each_before (Some part ∷ ss) h = (h.0, h.1, each_before ss h.2)

  pub each_also : (ks ss : List (Option (PartValue S))) → map without_puts ks ≡ map without_puts ss → EachDid ss → EachDid ks
  each_also ks ss e h = each_before ks (subst EachDid (sym e) (each_kept ss h))

  living_kept : (ss : List (Option (PartValue S))) → living_in (map without_puts ss) ≡ living_in ss
  living_kept [] = refl
  living_kept (None ∷ ss) = living_kept ss
  living_kept (Some part ∷ ss) = ap (λ (ts : List S). living_with part.tasks part.deeds ++ ts) (living_kept ss)

  pub living_same : (ks ss : List (Option (PartValue S))) → map without_puts ks ≡ map without_puts ss → living_in ks ≡ living_in ss
  living_same ks ss e = sym (living_kept ks) ∙ ap living_in e ∙ living_kept ss

  living_unprinted : (ss : List (Option (PartValue S))) → living_in (map without_prints ss) ≡ living_in ss
  living_unprinted [] = refl
  living_unprinted (None ∷ ss) = living_unprinted ss
  living_unprinted (Some part ∷ ss) = ap (λ (ts : List S). living_with part.tasks part.deeds ++ ts) (living_unprinted ss)

  -- the tasks that live on after stretches whose prints were moved away
  pub living_left : (ss rs : List (Option (PartValue S))) → rs ≡ map without_prints ss → EachDid ss
      → living_in rs ≡ living_with (tasks_in ss) (deeds_in ss)
  living_left ss rs e h = ap living_in e ∙ living_unprinted ss ∙ sym (living_joined ss h)

module _ {S : Type 0} (path : S → List ℕ) where
  can_kept : (ss : List (Option (PartValue S))) → CanAllSettle path ss → CanAllSettle path (map without_puts ss)
  can_kept [] h = tt
  can_kept (None ∷ ss) h = can_kept ss h
  can_kept (Some part ∷ ss) h = (record { done = h.0.done; same = h.0.same; rising = h.0.rising; numbered = h.0.numbered }, can_kept ss h.1)

  can_before : (ss : List (Option (PartValue S))) → CanAllSettle path (map without_puts ss) → CanAllSettle path ss
  can_before [] h = tt
  can_before (None ∷ ss) h = can_before ss h
  can_before (Some part ∷ ss) h =
      (record { done = h.0.done; same = h.0.same; rising = h.0.rising; numbered = h.0.numbered }, can_before ss h.1)

  -- it is the same whether puts were moved away, or prints
  pub can_also : (ks ss : List (Option (PartValue S))) → map without_puts ks ≡ map without_puts ss → CanAllSettle path ss
      → CanAllSettle path ks
  can_also ks ss e h = can_before ks (subst (CanAllSettle path) (sym e) (can_kept ss h))

  pub can_unprinted : (ss rs : List (Option (PartValue S))) → rs ≡ map without_prints ss → CanAllSettle path ss → CanAllSettle path rs
  can_unprinted ss rs e h = subst (CanAllSettle path) (sym e) (of ss h)
    where
      of : (qs : List (Option (PartValue S))) → CanAllSettle path qs → CanAllSettle path (map without_prints qs)
      of [] k = tt
      of (None ∷ qs) k = of qs k
      of (Some part ∷ qs) k = (record { done = k.0.done; same = k.0.same; rising = k.0.rising; numbered = k.0.numbered }, of qs k.1)
