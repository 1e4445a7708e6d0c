-- What live tasks did in their places.
use Rattle.std.proofs.Common.{◌≡◌, ℕ, suc, ◌+◌, ◌≤◌, ◌<◌, Bool, true, false, List, [], ◌∷◌, ◌++◌, map, length, Option, Some, None, slice_set, get_or, refl, sym, ap, ◌∙◌, subst, arith, append_assoc, append-nil}
use Rattle.std.specs.Prelude.{ℤ, ◌-◌, nat_lt, nat_le, if◌then◌else◌}
use Rattle.std.proofs.lemmas.Bool.Decides.{nat_tests}
use Rattle.std.specs.Option.{option_map}
use Rattle.std.proofs.lemmas.List.{length-map, length-append}
use Rattle.superstep_memory.specs.Logs.{located}
use Rattle.superstep_memory.specs.declared.arrays.Put.{Put}
use Rattle.superstep_memory.specs.Landing.{joined}
use Rattle.phase_records.specs.PrintValue.{PrintValue}
use Rattle.programs.specs.Meaning.{After, Synced, Stopped, Faulted, Segment}
use Rattle.programs.specs.Reads.{Reads}
use Rattle.programs.specs.Lent.{HasAdded}
use Rattle.programs.specs.declared.work.Work.{Work}
use Rattle.programs.specs.DeedValue.{DeedValue}
use Rattle.programs.specs.Superstep.{first_fault, fault_eight, or_later, log_of, print_of, prints_of, living_on, synced, stopped, left, spawned}
use Rattle.programs.specs.InPlace.{IsUnderWay, HasCome, IsFurther, Reported, end_of, IsDeed, ReportedOne, AllDone, deeds_of, IsAllDone, maker, overflow_at, kept, living_with, one_left, left_in, spawned_in}

module _ {S T : Type 0} where
  pub none_done : (p : Reads S T) (arrays : List (List ℕ × List ℤ)) (step : ℕ) (olds : List S) (puts : List Put) (ds : List (DeedValue S))
      (before : List PrintValue)
      → puts ≡ [] → ds ≡ [] → IsUnderWay p arrays step olds 0 puts olds ds before before
  none_done p arrays step olds puts ds before e f = record {
    us = [];
    rest = olds;
    front = [];
    cut = refl;
    count = refl;
    all = refl;
    log = e;
    shown = sym (append-nil before);
    done = subst (λ (x : List (DeedValue S)). AllDone p [] x []) (sym f) tt;
  }

  done_more : (ps : Reads S T) (us : List S) (ds : List (DeedValue S)) (ss : List (List ℕ × Segment T)) (u : S) (d : DeedValue S)
      (s : List ℕ × Segment T)
      → AllDone ps us ds ss → ps.path u ≡ s.0 → IsDeed ps u d s.1 → AllDone ps (us ++ u ∷ []) (ds ++ d ∷ []) (ss ++ s ∷ [])
  done_more ps [] [] [] u d s h e i = (e, i, tt)
  done_more ps [] [] (x ∷ ss) u d s h e i = absurd h
  done_more ps [] (x ∷ ds) ss u d s h e i = absurd h
  done_more ps (x ∷ us) [] ss u d s h e i = absurd h
  done_more ps (x ∷ us) (y ∷ ds) [] u d s h e i = absurd h
  done_more ps (x ∷ us) (y ∷ ds) (z ∷ ss) u d s h e i = (h.0, h.1, done_more ps us ds ss u d s h.2 e i)

module _ {T : Type 0} where
  joined_more : (ss : List (List ℕ × Segment T)) (s : List ℕ × Segment T)
      → joined (map log_of (ss ++ s ∷ [])) ≡ joined (map log_of ss) ++ s.1.puts
  joined_more [] s = append-nil s.1.puts
  joined_more (x ∷ ss) s =
      ap (λ (ps : List Put). x.1.puts ++ ps) (joined_more ss s) ∙ sym (append_assoc x.1.puts (joined (map log_of ss)) s.1.puts)

  prints_more : (step : ℕ) (ss : List (List ℕ × Segment T)) (s : List ℕ × Segment T)
      → prints_of step (ss ++ s ∷ []) ≡ prints_of step ss ++ map (print_of step s.0) s.1.prints
  prints_more step [] s = append-nil (map (print_of step s.0) s.1.prints)
  prints_more step (x ∷ ss) s =
      ap (λ (ps : List PrintValue). map (print_of step x.0) x.1.prints ++ ps) (prints_more step ss s)
      ∙ sym (append_assoc (map (print_of step x.0) x.1.prints) (prints_of step ss) (map (print_of step s.0) s.1.prints))

module _ {S : Type 0} where
  pub set_at : (us rest : List S) (t u : S) → slice_set (us ++ t ∷ rest) (length us) u ≡ us ++ u ∷ rest
  set_at [] rest t u = refl
  set_at (x ∷ us) rest t u = ap (λ (ts : List S). x ∷ ts) (set_at us rest t u)

  get_at : (us rest : List S) (t d : S) → get_or (us ++ t ∷ rest) (length us) d ≡ t
  get_at [] rest t d = refl
  get_at (x ∷ us) rest t d = get_at us rest t d

  -- the place of a task that is still to be done
  pub record IsNext (rest : List S) (t : S) : Type 0 where
    pub behind : List S
    pub is : rest ≡ t ∷ behind

  pub next_is : (us rest tasks : List S) (place : ℕ) (t : S) → tasks ≡ us ++ rest → length us ≡ place → place < length tasks
      → t ≡ get_or tasks place t → IsNext rest t
  next_is us [] tasks place t e c lt g =
      let l : length tasks ≡ length us = ap length e ∙ ap length (append-nil us) in absurd (omega (arith, l))
  next_is us (x ∷ rest) tasks place t e c lt g =
      let is : t ≡ x = g ∙ (λ i. get_or (e i) (sym c i) t) ∙ get_at us rest x t in
      record { behind = rest; is = λ i. sym is i ∷ rest }

module _ {S T : Type 0} where
  -- what a task did that didn't fault is kept
  pub kept_one : (ps : Reads S T) (goes_on : Bool) (count : ℕ) (g : Segment T) (step : ℕ) (t u : S) (old new : Work S) (qs : List Put)
      (ds es : List (DeedValue S)) (before after : List PrintValue)
      → HasAdded ps.meant old new g → g.after ≡ end_of ps goes_on u → ps.path u ≡ ps.path t
      → qs ≡ new.puts → count ≡ length new.puts - length old.puts
      → es ≡ ds ++ record { synced = goes_on; puts = count; spawns = new.spawns.items } ∷ []
      → after ≡ before ++ map (print_of step (ps.path u)) new.prints.items
      → ReportedOne ps g step None t u old.puts qs ds es before after
  kept_one ps goes_on count g step t u old new qs ds es before after added ended path puts counts deeds prints = (
    puts ∙ added.puts,
    prints ∙ (λ i. before ++ map (print_of step (path i)) (added.prints i)),
    path,
    (record { synced = goes_on; puts = count; spawns = new.spawns.items }, deeds, (added.spawns, ended, made)),
  )
    where
      made : count ≡ length g.puts
      made = let l = ap length added.puts ∙ length-append old.puts g.puts in omega (arith, l, counts)

  -- one task more is done
  pub one_more : (p : Reads S T) (arrays : List (List ℕ × List ℤ)) (step : ℕ) (olds : List S) (place : ℕ) (puts qs : List Put)
      (tasks : List S) (ds es : List (DeedValue S)) (before after shown : List PrintValue) (t u : S)
      → IsUnderWay p arrays step olds place puts tasks ds before after → place < length tasks → t ≡ get_or tasks place t
      → ReportedOne p (p.says.segment (p.meant t) arrays step) step None t u puts qs ds es after shown
      → IsUnderWay p arrays step olds (place + 1) qs (slice_set tasks place u) es before shown
  one_more p arrays step olds place puts qs tasks ds es before after shown t u h lt g reported =
      let n = next_is h.us h.rest tasks place t h.cut h.count lt g in
      let s : List ℕ × Segment T = (p.path t, p.says.segment (p.meant t) arrays step) in
      let d = reported.3.0 in
      let whole : tasks ≡ h.us ++ t ∷ n.behind = h.cut ∙ ap (λ (ts : List S). h.us ++ ts) n.is in
      record {
        us = h.us ++ u ∷ [];
        rest = n.behind;
        front = h.front ++ s ∷ [];
        cut = (λ i. slice_set (whole i) (sym h.count i) u) ∙ set_at h.us n.behind t u ∙ sym (append_assoc h.us (u ∷ []) n.behind);
        count = more h.us u ∙ ap suc h.count ∙ omega arith;
        all = h.all ∙ ap (λ (ts : List S). h.front ++ deeds_of p arrays step ts) n.is
            ∙ sym (append_assoc h.front (s ∷ []) (deeds_of p arrays step n.behind));
        log = reported.0 ∙ ap (λ (ps : List Put). ps ++ s.1.puts) h.log ∙ sym (joined_more h.front s);
        shown = reported.1 ∙ ap (λ (ps : List PrintValue). ps ++ map (print_of step (p.path t)) s.1.prints) h.shown
            ∙ append_assoc before (prints_of step h.front) (map (print_of step (p.path t)) s.1.prints)
            ∙ ap (λ (ps : List PrintValue). before ++ ps) (sym (prints_more step h.front s));
        done = subst (λ (x : List (DeedValue S)). AllDone p (h.us ++ u ∷ []) x (h.front ++ s ∷ [])) (sym reported.3.1)
            (done_more p h.us ds h.front u d s h.done reported.2 reported.3.2);
      }
    where
      more : (xs : List S) (x : S) → length (xs ++ x ∷ []) ≡ suc (length xs)
      more [] x = refl
      more (y ∷ xs) x = ap suc (more xs x)

  -- all are done
  pub all_done : (p : Reads S T) (arrays : List (List ℕ × List ℤ)) (step : ℕ) (olds : List S) (place : ℕ) (puts : List Put) (tasks : List S)
      (ds : List (DeedValue S)) (before after : List PrintValue)
      → IsUnderWay p arrays step olds place puts tasks ds before after → length tasks ≤ place
      → IsAllDone p (deeds_of p arrays step olds) step puts tasks ds before after
  all_done p arrays step olds place puts tasks ds before after h le = by h.rest h.cut h.all
    where
      by : (rest : List S) → tasks ≡ h.us ++ rest → deeds_of p arrays step olds ≡ h.front ++ deeds_of p arrays step rest
          → IsAllDone p (deeds_of p arrays step olds) step puts tasks ds before after
      by [] cut all =
          let front : deeds_of p arrays step olds ≡ h.front = all ∙ append-nil h.front in
          let us : tasks ≡ h.us = cut ∙ append-nil h.us in
          record {
            log = h.log ∙ ap (λ (ss : List (List ℕ × Segment T)). joined (map log_of ss)) (sym front);
            shown = h.shown ∙ ap (λ (ss : List (List ℕ × Segment T)). before ++ prints_of step ss) (sym front);
            done = subst (λ (xs : List S). AllDone p xs ds (deeds_of p arrays step olds)) (sym us)
                (subst (AllDone p h.us ds) (sym front) h.done);
          }
      by (t ∷ rest) cut all =
          let l = longer h.us rest t in
          let m : length tasks ≡ length (h.us ++ t ∷ rest) = ap length cut in
          let c = h.count in
          absurd (omega (arith, l, m, c, le))
        where
          longer : (xs ys : List S) (y : S) → length xs < length (xs ++ y ∷ ys)
          longer [] ys y = omega arith
          longer (x ∷ xs) ys y = let l = longer xs ys y in omega (arith, l)

  -- the task whose put is at a place of the log is the one that made it
  pub maker_reported : (ps : Reads S T) (us : List S) (ds : List (DeedValue S)) (ss : List (List ℕ × Segment T)) → AllDone ps us ds ss
      → (k : ℕ)
      → option_map fault_eight (located (map log_of ss) k) ≡ option_map overflow_at (maker ps.path us ds k)
  maker_reported ps [] [] [] h k = refl
  maker_reported ps [] [] (s ∷ ss) h k = absurd h
  maker_reported ps [] (d ∷ ds) ss h k = absurd h
  maker_reported ps (u ∷ us) [] [] h k = absurd h
  maker_reported ps (u ∷ us) [] (s ∷ ss) h k = absurd h
  maker_reported ps (u ∷ us) (d ∷ ds) [] h k = absurd h
  maker_reported ps (u ∷ us) (d ∷ ds) (s ∷ ss) h k =
      ap (λ (n : ℕ). option_map fault_eight (if nat_lt k n then Some (s.0, k) else located (map log_of ss) (k - n))) (sym h.1.2)
      ∙ by (nat_lt k d.puts) (maker_reported ps us ds ss h.2 (k - d.puts))
    where
      by : (b : Bool)
          → option_map fault_eight (located (map log_of ss) (k - d.puts)) ≡ option_map overflow_at (maker ps.path us ds (k - d.puts))
          → option_map fault_eight (if b then Some (s.0, k) else located (map log_of ss) (k - d.puts))
          ≡ option_map overflow_at (if b then Some (ps.path u) else maker ps.path us ds (k - d.puts))
      by true e = ap (λ (p : List ℕ). Some (8, p)) (sym h.0)
      by false e = e

  -- who did something didn't fault
  pub no_fault : (ps : Reads S T) (us : List S) (ds : List (DeedValue S)) (ss more : List (List ℕ × Segment T)) → AllDone ps us ds ss
      → first_fault (ss ++ more) ≡ first_fault more
  no_fault ps [] [] [] more h = refl
  no_fault ps [] [] (s ∷ ss) more h = absurd h
  no_fault ps [] (d ∷ ds) ss more h = absurd h
  no_fault ps (u ∷ us) [] ss more h = absurd h
  no_fault ps (u ∷ us) (d ∷ ds) [] more h = absurd h
  no_fault ps (u ∷ us) (d ∷ ds) (s ∷ ss) more h =
      ap (or_later (first_fault (ss ++ more)) s.0) h.1.1 ∙ by d.synced (no_fault ps us ds ss more h.2)
    where
      by : (b : Bool) → first_fault (ss ++ more) ≡ first_fault more
          → or_later (first_fault (ss ++ more)) s.0 (end_of ps b u) ≡ first_fault more
      by true e = e
      by false e = e

module _ {T : Type 0} where
  later_fault : (path : List ℕ) (g : Segment T) (rest : List (List ℕ × Segment T)) (f : ℕ × List ℕ) → first_fault ((path, g) ∷ []) ≡ Some f
      → first_fault ((path, g) ∷ rest) ≡ Some f
  later_fault path g rest f h = by g.after h
    where
      by : (a : After T) → or_later None path a ≡ Some f → or_later (first_fault rest) path a ≡ Some f
      by (Synced t) e = cc
      by Stopped e = cc
      by (Faulted x) e = e

module _ {S T : Type 0} where
  -- the next task faults
  pub one_faults : (p : Reads S T) (arrays : List (List ℕ × List ℤ)) (step : ℕ) (olds : List S) (place : ℕ) (puts qs : List Put)
      (tasks : List S) (ds es : List (DeedValue S)) (before after shown : List PrintValue) (t u : S) (f : ℕ × List ℕ)
      → IsUnderWay p arrays step olds place puts tasks ds before after → place < length tasks → t ≡ get_or tasks place t
      → ReportedOne p (p.says.segment (p.meant t) arrays step) step (Some f) t u puts qs ds es after shown
      → (first_fault (deeds_of p arrays step olds) ≡ Some f) × ((more : List PrintValue) × (shown ≡ before ++ more))
  one_faults p arrays step olds place puts qs tasks ds es before after shown t u f h lt g reported =
      let n = next_is h.us h.rest tasks place t h.cut h.count lt g in (
        ap first_fault h.all ∙ no_fault p h.us ds h.front (deeds_of p arrays step h.rest) h.done
            ∙ ap (λ (ts : List S). first_fault (deeds_of p arrays step ts)) n.is
            ∙ later_fault (p.path t) (p.says.segment (p.meant t) arrays step) (deeds_of p arrays step n.behind) f reported.1,
        (prints_of step h.front, reported.0 ∙ h.shown),
      )

  -- one task further
  pub one_further : (p : Reads S T) (arrays : List (List ℕ × List ℤ)) (step first place : ℕ) (puts qs rs : List Put) (ts tasks : List S)
      (ds es fs : List (DeedValue S)) (shown after last : List PrintValue) (t u : S)
      → IsFurther p arrays step None first place puts qs ts tasks ds es shown after → place < length tasks → t ≡ get_or tasks place t
      → ReportedOne p (p.says.segment (p.meant t) arrays step) step None t u qs rs es fs after last
      → IsFurther p arrays step None first (place + 1) puts rs ts (slice_set tasks place u) ds fs shown last
  one_further p arrays step first place puts qs rs ts tasks ds es fs shown after last t u h lt g reported olds before way =
      one_more p arrays step olds place qs rs tasks es fs before after last t u (h olds before way) lt g reported

  -- the next one faults
  pub faults_further : (p : Reads S T) (arrays : List (List ℕ × List ℤ)) (step first place end : ℕ) (puts qs rs : List Put)
      (ts tasks us : List S) (ds es fs : List (DeedValue S)) (shown after last : List PrintValue) (t u : S) (f : ℕ × List ℕ)
      → IsFurther p arrays step None first place puts qs ts tasks ds es shown after → place < length tasks → t ≡ get_or tasks place t
      → ReportedOne p (p.says.segment (p.meant t) arrays step) step (Some f) t u qs rs es fs after last
      → IsFurther p arrays step (Some f) first end puts rs ts us ds fs shown last
  faults_further p arrays step first place end puts qs rs ts tasks us ds es fs shown after last t u f h lt g reported olds before way =
      one_faults p arrays step olds place qs rs tasks es fs before after last t u f (h olds before way) lt g reported

  -- all tasks of a list
  pub come_all : (p : Reads S T) (arrays : List (List ℕ × List ℤ)) (step : ℕ) (olds : List S) (fault : Option (ℕ × List ℕ)) (end : ℕ)
      (puts : List Put) (us : List S) (ds : List (DeedValue S)) (before after : List PrintValue)
      → HasCome p arrays step olds fault end puts us ds before after → length us ≤ end
      → Reported p (deeds_of p arrays step olds) step fault puts us ds before after
  come_all p arrays step olds (Some f) end puts us ds before after h le = h
  come_all p arrays step olds None end puts us ds before after h le = all_done p arrays step olds end puts us ds before after h le

module _ {S : Type 0} where
  living_append : (ts us : List S) (ds es : List (DeedValue S)) → length ts ≡ length ds
      → living_with (ts ++ us) (ds ++ es) ≡ living_with ts ds ++ living_with us es
  living_append [] us [] es h = refl
  living_append [] us (d ∷ ds) es h = absurd (omega arith)
  living_append (t ∷ ts) us [] es h = absurd (omega arith)
  living_append (t ∷ ts) us (d ∷ ds) es h =
      ap (λ (xs : List S). (kept d.synced t ++ d.spawns) ++ xs) (living_append ts us ds es (omega arith))
      ∙ sym (append_assoc (kept d.synced t ++ d.spawns) (living_with ts ds) (living_with us es))

  -- the last task and its deed
  pub living_last : (ts us : List S) (t : S) (ds es : List (DeedValue S)) (d : DeedValue S) → ts ≡ us ++ t ∷ [] → ds ≡ es ++ d ∷ []
      → length ts ≡ length ds
      → living_with ts ds ≡ living_with us es ++ (kept d.synced t ++ d.spawns)
  living_last ts us t ds es d e f h =
      let l : length ts ≡ length us + 1 = ap length e ∙ more us t in
      let m : length ds ≡ length es + 1 = ap length f ∙ more es d in
      (λ i. living_with (e i) (f i)) ∙ living_append us (t ∷ []) es (d ∷ []) (omega (arith, l, m, h))
      ∙ ap (λ (xs : List S). living_with us es ++ xs) (append-nil (kept d.synced t ++ d.spawns))
    where
      more : {A : Type 0} (xs : List A) (x : A) → length (xs ++ x ∷ []) ≡ length xs + 1
      more [] x = refl
      more (y ∷ xs) x = let l = more xs x in omega (arith, l)

map_append : {A B : Type 0} (f : A → B) (xs ys : List A) → map f (xs ++ ys) ≡ map f xs ++ map f ys
map_append f [] ys = refl
map_append f (x ∷ xs) ys = ap (λ zs. f x ∷ zs) (map_append f xs ys)

module _ {S T : Type 0} where
  -- the tasks that live on are those of the segments
  pub living_reported : (ps : Reads S T) (us : List S) (ds : List (DeedValue S)) (ss : List (List ℕ × Segment T)) → AllDone ps us ds ss
      → map ps.meant (living_with us ds) ≡ living_on ss
  living_reported ps [] [] [] h = refl
  living_reported ps [] [] (s ∷ ss) h = absurd h
  living_reported ps [] (d ∷ ds) ss h = absurd h
  living_reported ps (u ∷ us) [] ss h = absurd h
  living_reported ps (u ∷ us) (d ∷ ds) [] h = absurd h
  living_reported ps (u ∷ us) (d ∷ ds) (s ∷ ss) h =
      map_append (ps.meant) (kept d.synced u ++ d.spawns) (living_with us ds)
      ∙ (λ i. (map_append (ps.meant) (kept d.synced u) d.spawns i) ++ living_reported ps us ds ss h.2 i)
      ∙ (λ i. (map ps.meant (kept d.synced u) ++ h.1.0 i) ++ living_on ss)
      ∙ ap (λ (xs : List T). (xs ++ s.1.spawns) ++ living_on ss) (by d.synced ∙ ap synced (sym h.1.1))
    where
      by : (b : Bool) → map ps.meant (kept b u) ≡ synced (end_of ps b u)
      by true = refl
      by false = refl

  -- what is counted of segments
  pub record IsCounted (us : List S) (ds : List (DeedValue S)) (ss : List (List ℕ × Segment T)) : Type 0 where
    pub tasks : length us ≡ length ds
    pub deeds : length ds ≡ length ss
    pub stopped : left_in ds ≡ left ss
    pub born : spawned_in ds ≡ spawned ss
    pub living : length (living_with us ds) + left_in ds ≡ length ds + spawned_in ds

  counted_one : (ps : Reads S T) (u : S) (d : DeedValue S) (s : List ℕ × Segment T) (us : List S) (ds : List (DeedValue S))
      (ss : List (List ℕ × Segment T))
      → IsDeed ps u d s.1 → IsCounted us ds ss → IsCounted (u ∷ us) (d ∷ ds) (s ∷ ss)
  counted_one ps u d s us ds ss h c = record {
    tasks = ap suc c.tasks;
    deeds = ap suc c.deeds;
    stopped = (λ i. (by d.synced ∙ ap stopped (sym h.1)) i + c.stopped i);
    born = (λ i. (sym (length-map d.spawns (ps.meant)) ∙ ap length h.0) i + c.born i);
    living =
        let a = length-append (kept d.synced u ++ d.spawns) (living_with us ds) in
        let b = length-append (kept d.synced u) d.spawns in
        let k = one d.synced in
        let l = c.living in
        omega (arith, a, b, k, l);
  }
    where
      by : (b : Bool) → one_left b ≡ stopped (end_of ps b u)
      by true = refl
      by false = refl

      one : (b : Bool) → length (kept b u) + one_left b ≡ 1
      one true = refl
      one false = refl

  pub counted : (ps : Reads S T) (us : List S) (ds : List (DeedValue S)) (ss : List (List ℕ × Segment T)) → AllDone ps us ds ss
      → IsCounted us ds ss
  counted ps [] [] [] h = record { tasks = refl; deeds = refl; stopped = refl; born = refl; living = refl }
  counted ps [] [] (s ∷ ss) h = absurd h
  counted ps [] (d ∷ ds) ss h = absurd h
  counted ps (u ∷ us) [] ss h = absurd h
  counted ps (u ∷ us) (d ∷ ds) [] h = absurd h
  counted ps (u ∷ us) (d ∷ ds) (s ∷ ss) h = counted_one ps u d s us ds ss h.1 (counted ps us ds ss h.2)

  -- tasks keep their paths
  pub paths_kept : (p : Reads S T) (arrays : List (List ℕ × List ℤ)) (step : ℕ) (olds us : List S) (ds : List (DeedValue S))
      → AllDone p us ds (deeds_of p arrays step olds) → map p.path us ≡ map p.path olds
  paths_kept p arrays step [] [] ds h = refl
  paths_kept p arrays step [] (u ∷ us) [] h = absurd h
  paths_kept p arrays step [] (u ∷ us) (d ∷ ds) h = absurd h
  paths_kept p arrays step (t ∷ olds) [] [] h = absurd h
  paths_kept p arrays step (t ∷ olds) [] (d ∷ ds) h = absurd h
  paths_kept p arrays step (t ∷ olds) (u ∷ us) [] h = absurd h
  paths_kept p arrays step (t ∷ olds) (u ∷ us) (d ∷ ds) h = λ i. h.0 i ∷ paths_kept p arrays step olds us ds h.2 i

module _ {S : Type 0} where
  -- if nobody stopped and nobody was spawned the same tasks live on
  pub all_stay : (us : List S) (ds : List (DeedValue S)) → length us ≡ length ds → left_in ds ≡ 0 → spawned_in ds ≡ 0
      → living_with us ds ≡ us
  all_stay [] [] l a b = refl
  all_stay [] (d ∷ ds) l a b = absurd (omega arith)
  all_stay (u ∷ us) [] l a b = absurd (omega arith)
  all_stay (u ∷ us) (d ∷ ds) l a b =
      let none : length d.spawns ≡ 0 = omega arith in
      let left : one_left d.synced ≡ 0 = omega arith in
      (λ i. (stays d.synced left i ++ no_spawns d.spawns none i) ++ all_stay us ds (omega arith) (omega arith) (omega arith) i)
    where
      stays : (b : Bool) → one_left b ≡ 0 → kept b u ≡ u ∷ []
      stays true h = refl
      stays false h = cc

      no_spawns : (ts : List S) → length ts ≡ 0 → ts ≡ []
      no_spawns [] h = refl
      no_spawns (t ∷ ts) h = absurd (omega arith)

module _ {S T : Type 0} where
  -- a fault of the task, by the path that it has afterwards
  pub fault_one : (ps : Reads S T) (g : Segment T) (t u : S) (code : ℕ) → g.after ≡ Faulted code → ps.path u ≡ ps.path t
      → first_fault ((ps.path t, g) ∷ []) ≡ Some (code, ps.path u)
  fault_one ps g t u code e path = ap (or_later None (ps.path t)) e ∙ ap (λ (p : List ℕ). Some (code, p)) (sym path)

module _ {S : Type 0} where
  -- no more stopped than did something
  pub few_left : (ds : List (DeedValue S)) → left_in ds ≤ length ds
  few_left [] = omega arith
  few_left (d ∷ ds) = let l = few_left ds in let k = one d.synced in omega (arith, l, k)
    where
      one : (b : Bool) → one_left b ≤ 1
      one true = omega arith
      one false = omega arith

pub are_many : (b : Bool) (m n : ℕ) → (m ≤ n → b ≡ true) → b ≡ false → n < m
are_many b m n h e = by (nat_le m n) refl
  where
    by : (c : Bool) → nat_le m n ≡ c → n < m
    by true k = let le : m ≤ n = grind (arith, nat_tests) in let t = h le in cc
    by false k = grind (arith, nat_tests)

-- a test of one order is that of another
pub le_iff : (m n i j : ℕ) → (m ≤ n → i ≤ j) → (i ≤ j → m ≤ n) → ((nat_le m n ≡ true) → i ≤ j) × (i ≤ j → nat_le m n ≡ true)
le_iff m n i j to from = (λ e. to (grind (arith, nat_tests)), λ le. let k : m ≤ n = from le in grind (arith, nat_tests))

pub false_true : false ≡ true → ⊥
false_true e = cc
