-- Tasks that did their segments, one after another.
use Rattle.std.proofs.Common.{◌≡◌, ℕ, zero, suc, ◌+◌, ◌≤◌, ◌<◌, Bool, true, false, List, [], ◌∷◌, ◌++◌, map, length, Option, Some, None, slice_set, get_or, refl, sym, ap, ◌∙◌, subst, arith, append_assoc}
use Rattle.std.specs.Prelude.{ℤ}
use Rattle.std.proofs.lemmas.List.{length-append}
use Rattle.superstep_memory.specs.declared.arrays.Put.{Put}
use Rattle.phase_records.specs.PrintValue.{PrintValue}
use Rattle.programs.specs.Meaning.{After, Synced, Stopped, Faulted, Segment, Frame, Says, IsFormed}
use Rattle.programs.specs.Reads.{Reads, reads}
use Rattle.programs.specs.DeedValue.{DeedValue}
use Rattle.programs.specs.Superstep.{first_fault, or_later}
use Rattle.programs.specs.InPlace.{ReportedOne, IsFurther, end_of}
use Rattle.programs.specs.History.{Entry, AllAllowed, segments_in, says_in}
use Rattle.programs.specs.Done.{Agrees, HasDoneOne, HasDoneRange, HasDoneAll}
use Rattle.programs.proofs.InPlace.{next_is, set_at, one_further, faults_further, none_done, come_all}

module _ {T : Type 0} where
  allowed_more : (f : Frame T) (may : T → List (List ℕ × List ℤ) → ℕ → Segment T → Type 0) (arrays : List (List ℕ × List ℤ)) (step : ℕ)
      (es : List (Entry T)) (e : Entry T)
      → AllAllowed f may arrays step es → may e.task arrays step e.left → IsFormed f e.task e.left
      → AllAllowed f may arrays step (es ++ e ∷ [])
  allowed_more f may arrays step [] e h m k = (m, k, tt)
  allowed_more f may arrays step (x ∷ es) e h m k = (h.0, h.1, allowed_more f may arrays step es e h.2 m k)

  agrees_front : (s : Says T) (arrays : List (List ℕ × List ℤ)) (step : ℕ) (es : List (Entry T)) (e : Entry T)
      → Agrees s arrays step (es ++ e ∷ [])
      → Agrees s arrays step es × (s.segment e.task arrays step ≡ e.left)
  agrees_front s arrays step [] e h = (tt, h.0)
  agrees_front s arrays step (x ∷ es) e h = let r = agrees_front s arrays step es e h.1 in ((h.0, r.0), r.1)

  tasks_more : {S : Type 0} (meant : S → T) (es : List (Entry T)) (done : List S) (e : Entry T) (t : S)
      → map (λ x. x.task) es ≡ map meant done → e.task ≡ meant t
      → map (λ x. x.task) (es ++ e ∷ []) ≡ map meant (done ++ t ∷ [])
  tasks_more meant es done e t h k = map_more (λ x. x.task) es e ∙ (λ i. h i ++ k i ∷ []) ∙ sym (map_more meant done t)
    where
      map_more : {A B : Type 0} (g : A → B) (xs : List A) (x : A) → map g (xs ++ x ∷ []) ≡ map g xs ++ g x ∷ []
      map_more g [] x = refl
      map_more g (y ∷ xs) x = ap (λ zs. g y ∷ zs) (map_more g xs x)

module _ {T : Type 0} where
  -- if the first of some didn't fault
  pub first_none : (ss more : List (List ℕ × Segment T)) → first_fault ss ≡ None → first_fault (ss ++ more) ≡ first_fault more
  first_none [] more h = refl
  first_none (s ∷ ss) more h = by s.1.after h (first_none ss more)
    where
      by : (a : After T) → or_later (first_fault ss) s.0 a ≡ None → (first_fault ss ≡ None → first_fault (ss ++ more) ≡ first_fault more)
          → or_later (first_fault (ss ++ more)) s.0 a ≡ first_fault more
      by (Synced t) h go = go h
      by Stopped h go = go h
      by (Faulted f) h go = cc

  pub not_faulted : {S : Type 0} (ps : Reads S T) (p : List ℕ) (g : Segment T) (b : Bool) (u : S) → g.after ≡ end_of ps b u
      → first_fault ((p, g) ∷ []) ≡ None
  not_faulted ps p g true u e = ap (or_later None p) e
  not_faulted ps p g false u e = ap (or_later None p) e

-- the tasks from one place to another did theirs, and those after them are as they were
pub record IsRanging {S T : Type 0} (f : Frame T) (may : T → List (List ℕ × List ℤ) → ℕ → Segment T → Type 0) (meant : S → T)
    (path : S → List ℕ) (arrays : List (List ℕ × List ℤ)) (step first place : ℕ) (puts qs : List Put) (ts us : List S)
    (ds es : List (DeedValue S)) (before after : List PrintValue) : Type 0 where
  pub entries : List (Entry T)
  pub allowed : AllAllowed f may arrays step entries
  pub front : List S
  pub done : List S
  pub back : List S
  pub now : List S
  pub cut : ts ≡ front ++ (done ++ back)
  pub is : us ≡ now ++ back
  pub from : length front ≡ first
  pub to : length front + length done ≡ place
  pub same : length now ≡ place
  pub tasks : map (λ e. e.task) entries ≡ map meant done
  pub calm : first_fault (segments_in f entries) ≡ None
  pub further : (s : Says T) → Agrees s arrays step entries
      → IsFurther (reads s meant path) arrays step None first place puts qs ts us ds es before after

module _ {S T : Type 0} (f : Frame T) (may : T → List (List ℕ × List ℤ) → ℕ → Segment T → Type 0) (meant : S → T) (path : S → List ℕ)
    (arrays : List (List ℕ × List ℤ)) (step : ℕ) where
  -- tasks cut in front of a place
  record IsSplit (first : ℕ) (ts : List S) : Type 0 where
    front : List S
    back : List S
    cut : ts ≡ front ++ back
    from : length front ≡ first

  split : (first : ℕ) (ts : List S) → first ≤ length ts → IsSplit first ts
  split zero ts le = record { front = []; back = ts; cut = refl; from = refl }
  split (suc n) [] le = absurd (omega (arith, le))
  split (suc n) (t ∷ ts) le =
      let h = split n ts (omega (arith, le)) in
      record { front = t ∷ h.front; back = h.back; cut = ap (λ (us : List S). t ∷ us) h.cut; from = ap suc h.from }

  pub none_ranged : (first : ℕ) (puts : List Put) (ts : List S) (ds : List (DeedValue S)) (before : List PrintValue) → first ≤ length ts
      → IsRanging f may meant path arrays step first first puts puts ts ts ds ds before before
  none_ranged first puts ts ds before le =
      let h = split first ts le in
      record {
        entries = [];
        allowed = tt;
        front = h.front;
        done = [];
        back = h.back;
        now = h.front;
        cut = h.cut;
        is = h.cut;
        from = h.from;
        to = let e = h.from in omega (arith, e);
        same = h.from;
        tasks = refl;
        calm = refl;
        further = λ s a olds before way. way;
      }

  segments_more : (es : List (Entry T)) (e : Entry T) → segments_in f (es ++ e ∷ []) ≡ segments_in f es ++ (f.path e.task, e.left) ∷ []
  segments_more [] e = refl
  segments_more (x ∷ es) e = ap (λ (ss : List (List ℕ × Segment T)). (f.path x.task, x.left) ∷ ss) (segments_more es e)

  pub one_ranged : (first place : ℕ) (puts qs rs : List Put) (ts tasks : List S) (ds es fs : List (DeedValue S))
      (shown after last : List PrintValue) (t u : S) (fault : Option (ℕ × List ℕ))
      → IsRanging f may meant path arrays step first place puts qs ts tasks ds es shown after → place < length tasks
      → t ≡ get_or tasks place t
      → HasDoneOne f may meant path arrays step fault t u qs rs es fs after last → fault ≡ None
      → IsRanging f may meant path arrays step first (place + 1) puts rs ts (slice_set tasks place u) ds fs shown last
  one_ranged first place puts qs rs ts tasks ds es fs shown after last t u fault h lt g one none =
      let n = next_is h.now h.back tasks place t h.is h.same lt g in
      let e : Entry T = record { task = meant t; left = one.left } in
      let c = h.to in
      let first_reported =
      subst (λ (o : Option (ℕ × List ℕ)). ReportedOne (reads (says_in f 0 []) meant path) one.left step o t u qs rs es fs after last) none
      (one.reported (says_in f 0 [])) in
      let calm_reported =
      not_faulted (reads (says_in f 0 []) meant path) (f.path (meant t)) one.left first_reported.3.0.synced u first_reported.3.2.1 in
      record {
        entries = h.entries ++ e ∷ [];
        allowed = allowed_more f may arrays step h.entries e h.allowed one.allowed one.formed;
        front = h.front;
        done = h.done ++ t ∷ [];
        back = n.behind;
        now = h.now ++ u ∷ [];
        cut =
            h.cut ∙ ap (λ (xs : List S). h.front ++ (h.done ++ xs)) n.is
            ∙ ap (λ (xs : List S). h.front ++ xs) (sym (append_assoc h.done (t ∷ []) n.behind));
        is =
            (λ i. slice_set ((h.is ∙ ap (λ (xs : List S). h.now ++ xs) n.is) i) (sym h.same i) u) ∙ set_at h.now n.behind t u
            ∙ sym (append_assoc h.now (u ∷ []) n.behind);
        from = h.from;
        to = let l = length-append h.done (t ∷ []) in omega (arith, l, c);
        same = let l = length-append h.now (u ∷ []) in let m = h.same in omega (arith, l, m);
        tasks = tasks_more meant h.entries h.done e t h.tasks refl;
        calm =
            ap first_fault (segments_more h.entries e)
            ∙ first_none (segments_in f h.entries) ((f.path e.task, e.left) ∷ []) h.calm ∙ calm_reported;
        further = λ s a.
            let b = agrees_front s arrays step h.entries e a in
            one_further (reads s meant path) arrays step first place puts qs rs ts tasks ds es fs shown after last t u (h.further s b.0) lt
            g
            (subst (λ (x : Segment T). ReportedOne (reads s meant path) x step None t u qs rs es fs after last) (sym b.1)
            (subst (λ (o : Option (ℕ × List ℕ)). ReportedOne (reads s meant path) one.left step o t u qs rs es fs after last) none (one.reported s)));
      }

  pub all_ranged : (first end : ℕ) (puts qs : List Put) (ts us : List S) (ds es : List (DeedValue S)) (before after : List PrintValue)
      → IsRanging f may meant path arrays step first end puts qs ts us ds es before after
      → HasDoneRange f may meant path arrays step None first end puts qs ts us ds es before after
  all_ranged first end puts qs ts us ds es before after h = record {
    entries = h.entries;
    allowed = h.allowed;
    front = h.front;
    done = h.done;
    back = h.back;
    cut = h.cut;
    from = h.from;
    tasks = h.tasks;
    whole = λ e. h.to;
    faults = λ x e. absurd (not_some x e);
    calm = λ e. h.calm;
    further = h.further;
  }
    where
      not_some : (x : ℕ × List ℕ) → None ≡ Some x → ⊥
      not_some x e = cc

  -- the next one faults
  pub fault_ranged : ((t : S) → f.path (meant t) ≡ path t)
      → (first place end : ℕ) (puts qs rs : List Put) (ts tasks us : List S) (ds es fs : List (DeedValue S))
      (shown after last : List PrintValue) (t u : S) (fault : Option (ℕ × List ℕ)) (x : ℕ × List ℕ)
      → IsRanging f may meant path arrays step first place puts qs ts tasks ds es shown after → place < length tasks
      → t ≡ get_or tasks place t
      → HasDoneOne f may meant path arrays step fault t u qs rs es fs after last → fault ≡ Some x
      → HasDoneRange f may meant path arrays step (Some x) first end puts rs ts us ds fs shown last
  fault_ranged law first place end puts qs rs ts tasks us ds es fs shown after last t u fault x h lt g one is =
      let n = next_is h.now h.back tasks place t h.is h.same lt g in
      let e : Entry T = record { task = meant t; left = one.left } in
      let reported : (s : Says T) → ReportedOne (reads s meant path) one.left step (Some x) t u qs rs es fs after last =
      λ s. subst (λ (o : Option (ℕ × List ℕ)). ReportedOne (reads s meant path) one.left step o t u qs rs es fs after last) is
      (one.reported s) in
      record {
        entries = h.entries ++ e ∷ [];
        allowed = allowed_more f may arrays step h.entries e h.allowed one.allowed one.formed;
        front = h.front;
        done = h.done ++ t ∷ [];
        back = n.behind;
        cut =
            h.cut ∙ ap (λ (xs : List S). h.front ++ (h.done ++ xs)) n.is
            ∙ ap (λ (xs : List S). h.front ++ xs) (sym (append_assoc h.done (t ∷ []) n.behind));
        from = h.from;
        tasks = tasks_more meant h.entries h.done e t h.tasks refl;
        whole = λ k. absurd (some_none x k);
        faults = λ y k.
            ap first_fault (segments_more h.entries e)
            ∙ first_none (segments_in f h.entries) ((f.path e.task, e.left) ∷ []) h.calm
            ∙ ap (λ (p : List ℕ). first_fault ((p, one.left) ∷ [])) (law t)
            ∙ (reported (says_in f 0 [])).1 ∙ k;
        calm = λ k. absurd (some_none x k);
        further = λ s a.
            let b = agrees_front s arrays step h.entries e a in
            faults_further (reads s meant path) arrays step first place end puts qs rs ts tasks us ds es fs shown after last t u x
            (h.further s b.0) lt g
            (subst (λ (w : Segment T). ReportedOne (reads s meant path) w step (Some x) t u qs rs es fs after last) (sym b.1) (reported s));
      }
    where
      some_none : (y : ℕ × List ℕ) → Some y ≡ None → ⊥
      some_none y e = cc

  -- all of a list
  pub all_done : (fault : Option (ℕ × List ℕ)) (end : ℕ) (puts qs : List Put) (ts us : List S) (ds es : List (DeedValue S))
      (before after : List PrintValue)
      → HasDoneRange f may meant path arrays step fault 0 end puts qs ts us ds es before after → end ≡ length ts → length us ≡ length ts
      → puts ≡ [] → ds ≡ []
      → HasDoneAll f may meant path arrays step fault qs ts us es before after
  all_done fault end puts qs ts us ds es before after h all same none_put none_done_yet = record {
    entries = h.entries;
    allowed = h.allowed;
    tasks = record {
      back = map meant h.back;
      cut =
          ap (map meant) (h.cut ∙ (λ i. nothing h.front h.from i ++ (h.done ++ h.back)))
          ∙ map_append h.done h.back ∙ ap (λ (xs : List T). xs ++ map meant h.back) (sym h.tasks);
      whole = by fault h.whole h.faults;
    };
    reported = λ s a.
        come_all (reads s meant path) arrays step ts fault end qs us es before after
        (h.further s a ts before (none_done (reads s meant path) arrays step ts puts ds before none_put none_done_yet))
        (omega (arith, all, same));
  }
    where
      nothing : (xs : List S) → length xs ≡ 0 → xs ≡ []
      nothing [] e = refl
      nothing (x ∷ xs) e = absurd (omega arith)

      map_append : (xs ys : List S) → map meant (xs ++ ys) ≡ map meant xs ++ map meant ys
      map_append [] ys = refl
      map_append (x ∷ xs) ys = ap (λ zs. meant x ∷ zs) (map_append xs ys)

      by : (o : Option (ℕ × List ℕ)) → (o ≡ None → length h.front + length h.done ≡ end)
          → ((x : ℕ × List ℕ) → o ≡ Some x → first_fault (segments_in f h.entries) ≡ Some x)
          → first_fault (segments_in f h.entries) ≡ None → map meant h.back ≡ []
      by None whole faults calm =
          let w = whole refl in
          let l = ap length h.cut ∙ length-append h.front (h.done ++ h.back) in
          let m = length-append h.done h.back in
          ap (map meant) (nothing h.back (omega (arith, w, l, m, all)))
      by (Some x) whole faults calm = let e = faults x refl in cc
