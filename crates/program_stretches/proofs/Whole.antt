-- What stretches have done that cover the live tasks.
use Rattle.std.proofs.Common.{◌≡◌, ◌==◌, ℕ, zero, suc, ◌+◌, true, List, [], ◌∷◌, ◌++◌, map, length, drop, Option, Some, None, refl, sym, ap, ◌∙◌, subst, arith, append_assoc, append-nil, length-append}
use Rattle.std.specs.Prelude.{ℤ, ◌&&◌}
use Rattle.std.proofs.lemmas.List.{map-append}
use Rattle.superstep_memory.specs.declared.arrays.Put.{Put}
use Rattle.superstep_memory.specs.Landing.{joined}
use Rattle.phase_records.specs.PrintValue.{PrintValue}
use Rattle.programs.specs.Meaning.{After, Synced, Stopped, Faulted, Segment, Says}
use Rattle.programs.specs.Reads.{Reads, reads}
use Rattle.programs.specs.DeedValue.{DeedValue}
use Rattle.programs.specs.Superstep.{first_fault, or_later, or_next, log_of, print_of, prints_of}
use Rattle.programs.specs.InPlace.{AllDone, IsAllDone, Reported, deeds_of}
use Rattle.programs.specs.History.{Entry, AllAllowed, segments_in}
use Rattle.programs.specs.Done.{Agrees}
use Rattle.programs.proofs.InPlace.{none_done, come_all, no_fault}
use Rattle.programs.proofs.Ranged.{first_none}
use Rattle.program_stretches.specs.PartValue.{PartValue}
use Rattle.program_stretches.specs.Did.{DidAll}
use Rattle.program_stretches.proofs.Along.{both}
use Rattle.program_stretches.specs.Parts.{Reading, HasRun, HasDone, AreOwn, tasks_in, puts_in, deeds_in, prints_in, fault_in, covers}

-- ---- lists one after another

module _ {T : Type 0} where
  joined_append : (ss rs : List (List ℕ × Segment T)) → joined (map log_of (ss ++ rs)) ≡ joined (map log_of ss) ++ joined (map log_of rs)
  joined_append [] rs = refl
  joined_append (s ∷ ss) rs =
      ap (λ (ps : List Put). s.1.puts ++ ps) (joined_append ss rs)
      ∙ sym (append_assoc s.1.puts (joined (map log_of ss)) (joined (map log_of rs)))

  prints_append : (step : ℕ) (ss rs : List (List ℕ × Segment T)) → prints_of step (ss ++ rs) ≡ prints_of step ss ++ prints_of step rs
  prints_append step [] rs = refl
  prints_append step (s ∷ ss) rs =
      ap (λ (ps : List PrintValue). map (print_of step s.0) s.1.prints ++ ps) (prints_append step ss rs)
      ∙ sym (append_assoc (map (print_of step s.0) s.1.prints) (prints_of step ss) (prints_of step rs))

module _ {S T : Type 0} where
  deeds_append : (p : Reads S T) (arrays : List (List ℕ × List ℤ)) (step : ℕ) (ts us : List S)
      → deeds_of p arrays step (ts ++ us) ≡ deeds_of p arrays step ts ++ deeds_of p arrays step us
  deeds_append p arrays step [] us = refl
  deeds_append p arrays step (t ∷ ts) us =
      ap (λ ss. (p.path t, p.says.segment (p.meant t) arrays step) ∷ ss) (deeds_append p arrays step ts us)

  done_append : (p : Reads S T) (us ws : List S) (ds es : List (DeedValue S)) (ss rs : List (List ℕ × Segment T)) → AllDone p us ds ss
      → AllDone p ws es rs → AllDone p (us ++ ws) (ds ++ es) (ss ++ rs)
  done_append p [] ws [] es [] rs h k = k
  done_append p [] ws [] es (s ∷ ss) rs h k = absurd h
  done_append p [] ws (d ∷ ds) es ss rs h k = absurd h
  done_append p (u ∷ us) ws [] es [] rs h k = absurd h
  done_append p (u ∷ us) ws [] es (s ∷ ss) rs h k = absurd h
  done_append p (u ∷ us) ws (d ∷ ds) es [] rs h k = absurd h
  done_append p (u ∷ us) ws (d ∷ ds) es (s ∷ ss) rs h k = (h.0, h.1, done_append p us ws ds es ss rs h.2 k)

  -- what tasks did after others: both together
  reported_append : (p : Reads S T) (step : ℕ) (ss rs : List (List ℕ × Segment T)) (puts qs : List Put) (us ws : List S)
      (ds es : List (DeedValue S)) (after last : List PrintValue) (fault : Option (ℕ × List ℕ))
      → IsAllDone p ss step puts us ds [] after → Reported p rs step fault qs ws es [] last
      → Reported p (ss ++ rs) step fault (puts ++ qs) (us ++ ws) (ds ++ es) [] (after ++ last)
  reported_append p step ss rs puts qs us ws ds es after last None h k = record {
    log = (λ i. h.log i ++ k.log i) ∙ sym (joined_append ss rs);
    shown = (λ i. h.shown i ++ k.shown i) ∙ sym (prints_append step ss rs);
    done = done_append p us ws ds es ss rs h.done k.done;
  }
  reported_append p step ss rs puts qs us ws ds es after last (Some f) h k = (no_fault p us ds ss rs h.done ∙ k.0, (after ++ last, refl))

module _ {T : Type 0} where
  agrees_front : (s : Says T) (arrays : List (List ℕ × List ℤ)) (step : ℕ) (es fs : List (Entry T)) → Agrees s arrays step (es ++ fs)
      → Agrees s arrays step es
  agrees_front s arrays step [] fs h = tt
  agrees_front s arrays step (e ∷ es) fs h = (h.0, agrees_front s arrays step es fs h.1)

  agrees_back : (s : Says T) (arrays : List (List ℕ × List ℤ)) (step : ℕ) (es fs : List (Entry T)) → Agrees s arrays step (es ++ fs)
      → Agrees s arrays step fs
  agrees_back s arrays step [] fs h = h
  agrees_back s arrays step (e ∷ es) fs h = agrees_back s arrays step es fs h.1

module _ {S T : Type 0} (r : Reading S T) (arrays : List (List ℕ × List ℤ)) (step : ℕ) where
  allowed_append : (es fs : List (Entry T)) → AllAllowed r.frame r.may arrays step es → AllAllowed r.frame r.may arrays step fs
      → AllAllowed r.frame r.may arrays step (es ++ fs)
  allowed_append [] fs h k = k
  allowed_append (e ∷ es) fs h k = (h.0, h.1, allowed_append es fs h.2 k)

  nothing : {A : Type 0} (xs : List A) → length xs ≡ 0 → xs ≡ []
  nothing [] e = refl
  nothing (x ∷ xs) e = absurd (omega arith)

  some_none : (y : ℕ × List ℕ) → None ≡ Some y → ⊥
  some_none y e = cc

  pub ran_all : (olds : List S) (part : PartValue S) → HasRun r arrays step olds part → length part.tasks ≡ length olds
      → DidAll r arrays step part.fault part.puts olds part.tasks part.deeds part.prints
  ran_all olds part h same = record {
    entries = h.entries;
    allowed = h.allowed;
    done = h.done;
    back = h.back;
    cut = h.cut ∙ (λ i. nothing h.front h.from i ++ (h.done ++ h.back));
    tasks = h.tasks;
    whole = λ e.
        let w = h.whole e in
        let l = ap length h.cut ∙ length-append h.front (h.done ++ h.back) in
        let m = length-append h.done h.back in
        nothing h.back (omega (arith, w, l, m));
    calm = h.calm;
    faults = h.faults;
    reported = λ s a.
        come_all (reads s r.meant r.path) arrays step olds part.fault (length olds) part.puts part.tasks part.deeds [] part.prints
        (h.further s a olds [] (none_done (reads s r.meant r.path) arrays step olds [] [] [] refl refl)) (omega (arith, same));
  }

  pub did_none : DidAll r arrays step None [] [] [] [] []
  did_none = record {
    entries = [];
    allowed = tt;
    done = [];
    back = [];
    cut = refl;
    tasks = refl;
    whole = λ e. refl;
    calm = λ e. refl;
    faults = λ x e. absurd (some_none x e);
    reported = λ s a. record { log = refl; shown = refl; done = tt };
  }

  pub did_join : (fault : Option (ℕ × List ℕ)) (puts qs : List Put) (ts us vs ws : List S) (ds es : List (DeedValue S))
      (after last : List PrintValue)
      → DidAll r arrays step None puts ts vs ds after → DidAll r arrays step fault qs us ws es last
      → DidAll r arrays step fault (puts ++ qs) (ts ++ us) (vs ++ ws) (ds ++ es) (after ++ last)
  did_join fault puts qs ts us vs ws ds es after last h k = record {
    entries = h.entries ++ k.entries;
    allowed = allowed_append h.entries k.entries h.allowed k.allowed;
    done = h.done ++ k.done;
    back = k.back;
    cut =
        (λ i. (h.cut ∙ ap (λ xs. h.done ++ xs) (h.whole refl) ∙ append-nil h.done) i ++ k.cut i) ∙ sym (append_assoc h.done k.done k.back);
    tasks = map-append (λ e. e.task) h.entries k.entries ∙ (λ i. h.tasks i ++ k.tasks i) ∙ sym (map-append r.meant h.done k.done);
    whole = k.whole;
    calm = λ e. in_front (k.calm e);
    faults = λ x e. in_front (k.faults x e);
    reported = λ s a.
        let p = reads s r.meant r.path in
        subst (λ ss. Reported p ss step fault (puts ++ qs) (vs ++ ws) (ds ++ es) [] (after ++ last))
        (sym (deeds_append p arrays step ts us))
        (reported_append p step (deeds_of p arrays step ts) (deeds_of p arrays step us) puts qs vs ws ds es after last fault
        (h.reported s (agrees_front s arrays step h.entries k.entries a)) (k.reported s (agrees_back s arrays step h.entries k.entries a)));
  }
    where
      in_front : {o : Option (ℕ × List ℕ)} → first_fault (segments_in r.frame k.entries) ≡ o
          → first_fault (segments_in r.frame (h.entries ++ k.entries)) ≡ o
      in_front e =
          ap first_fault (map-append (λ x. (r.frame.path x.task, x.left)) h.entries k.entries)
          ∙ first_none (segments_in r.frame h.entries) (segments_in r.frame k.entries) (h.calm refl) ∙ e

-- ---- stretches that cover the live tasks

pub at_number : (a b : ℕ) → (a == b) ≡ true → a ≡ b
at_number a b h = grind arith

module _ {A : Type 0} where
  drop_none : (k : ℕ) → drop {A = A} k [] ≡ []
  drop_none zero = refl
  drop_none (suc k) = refl

  drop_plus : (a n : ℕ) (xs : List A) → drop (a + n) xs ≡ drop n (drop a xs)
  drop_plus zero n xs = let e : zero + n ≡ n = omega arith in ap (λ (k : ℕ). drop k xs) e
  drop_plus (suc a) n [] = drop_none (suc a + n) ∙ sym (drop_none n)
  drop_plus (suc a) n (x ∷ xs) = let e : suc a + n ≡ suc (a + n) = omega arith in ap (λ (k : ℕ). drop k (x ∷ xs)) e ∙ drop_plus a n xs

  drop_front : (ys zs : List A) → drop (length ys) (ys ++ zs) ≡ zs
  drop_front [] zs = refl
  drop_front (y ∷ ys) zs = drop_front ys zs

  -- what follows the first of what is from a place on
  pub drop_more : (xs ys zs : List A) (at n : ℕ) → drop at xs ≡ ys ++ zs → n ≡ length ys → drop (at + n) xs ≡ zs
  drop_more xs ys zs at n h e = drop_plus at n xs ∙ (λ i. drop (e i) (h i)) ∙ drop_front ys zs

  pub drop_end : (xs : List A) → drop (length xs) xs ≡ []
  drop_end [] = refl
  drop_end (x ∷ xs) = drop_end xs

module _ {S T : Type 0} (r : Reading S T) (arrays : List (List ℕ × List ℤ)) (live : List S) (step : ℕ) where
  -- of these tasks all did their segments, or the first fault is known
  pub record HaveDid (ss : List (Option (PartValue S))) (ts : List S) : Type 0 where
    pub quiet : fault_in ss ≡ None → DidAll r arrays step None (puts_in ss) ts (tasks_in ss) (deeds_in ss) (prints_in ss)
    pub loud : (x : ℕ × List ℕ) → fault_in ss ≡ Some x
        → (puts : List Put)
        × ((us : List S) × ((ds : List (DeedValue S)) × ((after : List PrintValue) × DidAll r arrays step (Some x) puts ts us ds after)))

  first_some : (ss more : List (List ℕ × Segment T)) (x : ℕ × List ℕ) → first_fault ss ≡ Some x → first_fault (ss ++ more) ≡ Some x
  first_some [] more x h = cc
  first_some (s ∷ ss) more x h = by s.1.after h (first_some ss more x)
    where
      by : (a : After T) → or_later (first_fault ss) s.0 a ≡ Some x → (first_fault ss ≡ Some x → first_fault (ss ++ more) ≡ Some x)
          → or_later (first_fault (ss ++ more)) s.0 a ≡ Some x
      by (Synced t) h go = go h
      by Stopped h go = go h
      by (Faulted c) h go = h

  some_not_none : (x : ℕ × List ℕ) → Some x ≡ None → ⊥
  some_not_none x e = cc

  -- a fault among the first tasks is that of all
  did_more : (x : ℕ × List ℕ) (puts : List Put) (ts more us : List S) (ds : List (DeedValue S)) (after : List PrintValue)
      → DidAll r arrays step (Some x) puts ts us ds after
      → DidAll r arrays step (Some x) puts (ts ++ more) us ds after
  did_more x puts ts more us ds after h = record {
    entries = h.entries;
    allowed = h.allowed;
    done = h.done;
    back = h.back ++ more;
    cut = ap (λ xs. xs ++ more) h.cut ∙ append_assoc h.done h.back more;
    tasks = h.tasks;
    whole = λ e. absurd (some_not_none x e);
    calm = λ e. absurd (some_not_none x e);
    faults = h.faults;
    reported = λ s a.
        let p = reads s r.meant r.path in
        let t = h.reported s a in (
          ap first_fault (deeds_append p arrays step ts more) ∙ first_some (deeds_of p arrays step ts) (deeds_of p arrays step more) x t.0,
          t.1,
        );
  }

  have_one : (part : PartValue S) (ss : List (Option (PartValue S))) (olds back : List S)
      → DidAll r arrays step part.fault part.puts olds part.tasks part.deeds part.prints → HaveDid ss back
      → HaveDid (Some part ∷ ss) (olds ++ back)
  have_one part ss olds back h k = by part.fault refl h
    where
      by : (o : Option (ℕ × List ℕ)) → part.fault ≡ o → DidAll r arrays step o part.puts olds part.tasks part.deeds part.prints
          → HaveDid (Some part ∷ ss) (olds ++ back)
      by None e d = record {
        quiet = λ none.
            did_join r arrays step None part.puts (puts_in ss) olds back part.tasks (tasks_in ss) part.deeds (deeds_in ss) part.prints
            (prints_in ss) d
            (k.quiet (sym (ap (λ o. or_next o (fault_in ss)) e) ∙ none));
        loud = λ x some.
            let l = k.loud x (sym (ap (λ o. or_next o (fault_in ss)) e) ∙ some) in (
              part.puts ++ l.0,
              (
                part.tasks ++ l.1.0,
                (
                  part.deeds ++ l.1.1.0,
                  (
                    part.prints ++ l.1.1.1.0,
                    did_join r arrays step (Some x) part.puts l.0 olds back part.tasks l.1.0 part.deeds l.1.1.0 part.prints l.1.1.1.0 d
                        l.1.1.1.1,
                  ),
                ),
              ),
            );
      }
      by (Some y) e d = record {
        quiet = λ none. absurd (some_not_none y (sym (ap (λ o. or_next o (fault_in ss)) e) ∙ none));
        loud = λ x some.
            let same : Some y ≡ Some x = sym (ap (λ o. or_next o (fault_in ss)) e) ∙ some in (
              part.puts,
              (
                part.tasks,
                (
                  part.deeds,
                  (
                    part.prints,
                    did_more x part.puts olds back part.tasks part.deeds part.prints
                        (subst (λ o. DidAll r arrays step o part.puts olds part.tasks part.deeds part.prints) same d),
                  ),
                ),
              ),
            );
      }

  pub have_did : (end at : ℕ) (ss : List (Option (PartValue S))) → AreOwn r arrays live step ss → covers true end at ss ≡ true
      → end ≡ length live → HaveDid ss (drop at live)
  have_did end at [] own h e = record {
    quiet =
        λ n. subst (λ ts. DidAll r arrays step None [] ts [] [] []) (sym (ap (λ k. drop k live) (at_number at end h ∙ e) ∙ drop_end live))
        (did_none r arrays step);
    loud = λ x n. absurd (none_some x n);
  }
    where
      none_some : (y : ℕ × List ℕ) → None ≡ Some y → ⊥
      none_some y e = cc
  have_did end at (None ∷ ss) own h e = cc
  have_did end at (Some part ∷ ss) own h e =
      let a = both ((part.first == at) && part.done) (covers true end (at + length part.tasks) ss) h in
      let b = both (part.first == at) part.done a.0 in
      let first = at_number part.first at b.0 in
      let p = own.0 in
      let t = subst (λ d. HasDone r arrays step d p.olds part) b.1 p.reported in
      let rest = drop_more live p.olds p.back at (length part.tasks) (ap (λ k. drop k live) (sym first) ∙ p.live_from) t.1 in
      subst (HaveDid (Some part ∷ ss)) (sym (ap (λ k. drop k live) (sym first) ∙ p.live_from))
      (have_one part ss p.olds p.back (ran_all r arrays step p.olds part t.0 t.1)
      (subst (HaveDid ss) rest (have_did end (at + length part.tasks) ss own.1 a.1 e)))
