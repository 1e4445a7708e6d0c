-- Stretches are taken, run and taken back.
use Rattle.std.proofs.Common.{◌≡◌, ◌⊎◌, ◌<◌, ℕ, zero, suc, ◌+◌, Bool, true, false, List, [], ◌∷◌, ◌++◌, length, drop, Option, Some, None, Result, Ok, Err, slice_get, slice_set, get_or, refl, sym, ap, ◌∙◌, subst, inl, inr, ⊎_elim, arith}
use Rattle.std.specs.Prelude.{ℤ, OnOk, OnErr, not}
use Rattle.std.specs.List.{list_all}
use Rattle.superstep_memory.specs.Landing.{is_set}
use Rattle.program_stretches.specs.PartValue.{PartValue}
use Rattle.program_stretches.specs.Parts.{Reading, HasRun, HasDone, IsPartOf, IsOwn, AreOwn, AreFresh, fresh_part, tasks_in}
use Rattle.program_stretches.specs.StretchesValue.{ready_at}
use Rattle.program_stretches.proofs.Whole.{drop_more}

not_both : {A : Type 0} {b : Bool} → b ≡ true → b ≡ false → A
not_both on off = let bad : true ≡ false = sym on ∙ off in absurd cc

module _ {S T : Type 0} (r : Reading S T) (arrays : List (List ℕ × List ℤ)) (live : List S) (step : ℕ) where
  -- tasks that ran are of the same live ones; so are none
  pub ran_is_part : (old new : PartValue S) → IsPartOf r arrays live step old → old.done ≡ false → new.first ≡ old.first
      → ((new.done ≡ true) × HasRun r arrays step old.tasks new × (length new.tasks ≡ length old.tasks)) ⊎ (new ≡ fresh_part old.first [])
      → new.settled ≡ false → IsPartOf r arrays live step new
  ran_is_part old new h n first way un = ⊎_elim yes no way
    where
      fresh : old ≡ fresh_part old.first h.olds
      fresh = subst (λ b. HasDone r arrays step b h.olds old) n h.reported

      tasks : old.tasks ≡ h.olds
      tasks = ap (λ (p : PartValue S). p.tasks) fresh

      yes : (new.done ≡ true) × HasRun r arrays step old.tasks new × (length new.tasks ≡ length old.tasks) → IsPartOf r arrays live step new
      yes t = record {
        olds = old.tasks;
        back = h.back;
        live_from = ap (λ (k : ℕ). drop k live) first ∙ h.live_from ∙ ap (λ ts. ts ++ h.back) (sym tasks);
        reported = subst (λ b. HasDone r arrays step b old.tasks new) (sym t.0) (t.1, t.2);
        sets = λ on. not_both on un;
      }

      no : new ≡ fresh_part old.first [] → IsPartOf r arrays live step new
      no e =
          subst (IsPartOf r arrays live step) (sym e)
          (record { olds = []; back = drop old.first live; live_from = refl; reported = refl; sets = λ on. not_both on refl })

  -- whichever way a run of them ended
  pub run_is_part : {X E : Type 0} (answer : Result X E) (old new : PartValue S) → IsPartOf r arrays live step old → old.done ≡ false
      → new.first ≡ old.first
      → OnOk answer (new.done ≡ true) → OnOk answer (HasRun r arrays step old.tasks new) → OnOk answer (length new.tasks ≡ length old.tasks)
      → OnErr answer (new ≡ fresh_part old.first []) → new.settled ≡ false
      → IsPartOf r arrays live step new
  run_is_part (Ok x) old new h n first done ran count lost un = ran_is_part old new h n first (inl (done, ran, count)) un
  run_is_part (Err e) old new h n first done ran count lost un = ran_is_part old new h n first (inr lost) un

  -- so are they once they are settled, if none of their puts adds
  pub settled_is_part : (old new : PartValue S) → IsPartOf r arrays live step old → old.done ≡ true → list_all is_set old.puts ≡ true
      → new ≡ record old { settled = new.settled } → IsPartOf r arrays live step new
  settled_is_part old new h done all e =
      let t = subst (λ b. HasDone r arrays step b h.olds old) done h.reported in
      subst (IsPartOf r arrays live step) (sym e) (record {
        olds = h.olds;
        back = h.back;
        live_from = h.live_from;
        reported = subst (λ b. HasDone r arrays step b h.olds (record old { settled = new.settled })) (sym done) (t.0, t.1);
        sets = λ on. all;
      })

  pub own_get : (parts : List (Option (PartValue S))) (k : ℕ) (part : PartValue S) → AreOwn r arrays live step parts
      → slice_get parts k ≡ Some (Some part) → IsPartOf r arrays live step part
  own_get [] k part own e = cc
  own_get (s ∷ ss) zero part own e = subst (IsOwn r arrays live step) (unwrapped e) own.0
    where
      value : Option (Option (PartValue S)) → Option (PartValue S)
      value None = None
      value (Some x) = x

      unwrapped : {x y : Option (PartValue S)} → Some x ≡ Some y → x ≡ y
      unwrapped e = ap value e
  own_get (s ∷ ss) (suc k) part own e = own_get ss k part own.1 e

  pub own_set : (parts : List (Option (PartValue S))) (k : ℕ) (s : Option (PartValue S)) → AreOwn r arrays live step parts
      → IsOwn r arrays live step s → AreOwn r arrays live step (slice_set parts k s)
  own_set [] k s own h = tt
  own_set (x ∷ ss) zero s own h = (h, own.1)
  own_set (x ∷ ss) (suc k) s own h = (own.0, own_set ss k s own.1 h)

module _ {S T : Type 0} (r : Reading S T) (arrays : List (List ℕ × List ℤ)) (step : ℕ) where
  -- stretches that haven't run are of their own tasks
  fresh_from : (at : ℕ) (ss : List (Option (PartValue S))) (live : List S) → drop at live ≡ tasks_in ss → AreFresh at ss
      → AreOwn r arrays live step ss
  fresh_from at [] live e h = tt
  fresh_from at (None ∷ ss) live e h = absurd h
  fresh_from at (Some part ∷ ss) live e h = (
    record {
      olds = part.tasks;
      back = tasks_in ss;
      live_from = ap (λ (k : ℕ). drop k live) (ap (λ (p : PartValue S). p.first) h.0) ∙ e;
      reported =
          subst (λ b. HasDone r arrays step b part.tasks part) (sym (ap (λ (p : PartValue S). p.done) h.0))
          (h.0 ∙ ap (λ (k : ℕ). fresh_part k part.tasks) (sym (ap (λ (p : PartValue S). p.first) h.0)));
      sets = λ on. not_both on (ap (λ (p : PartValue S). p.settled) h.0);
    },
    fresh_from (at + length part.tasks) ss live (drop_more live part.tasks (tasks_in ss) at (length part.tasks) e refl) h.1,
  )

  pub fresh_own : (ss : List (Option (PartValue S))) → AreFresh 0 ss → AreOwn r arrays (tasks_in ss) step ss
  fresh_own ss h = fresh_from 0 ss (tasks_in ss) refl h

not_true : (b : Bool) → not b ≡ true → b ≡ false
not_true true h = cc
not_true false h = refl

module _ {S : Type 0} where
  -- one that is ready
  pub record IsReady (parts : List (Option (PartValue S))) (k : ℕ) : Type 0 where
    pub part : PartValue S
    pub there : slice_get parts k ≡ Some (Some part)
    pub ready : part.done ≡ false
    pub got : (d : Option (PartValue S)) → get_or parts k d ≡ Some part

  pub ready_part : (parts : List (Option (PartValue S))) (k : ℕ) → ready_at (slice_get parts k) ≡ true → IsReady parts k
  ready_part [] k h = cc
  ready_part (None ∷ ss) zero h = cc
  ready_part (Some part ∷ ss) zero h = record { part = part; there = refl; ready = not_true part.done h; got = λ d. refl }
  ready_part (s ∷ ss) (suc k) h = let r = ready_part ss k h in record { part = r.part; there = r.there; ready = r.ready; got = r.got }

  -- there is one
  pub some_there : (parts : List (Option (PartValue S))) (k : ℕ) (s : Option (PartValue S)) → slice_get parts k ≡ Some s → parts ≡ [] → ⊥
  some_there [] k s e n = cc
  some_there (x ∷ ss) k s e n = cc

  pub there_inside : (parts : List (Option (PartValue S))) (k : ℕ) (s : Option (PartValue S)) → slice_get parts k ≡ Some s
      → k < length parts
  there_inside [] k s e = cc
  there_inside (x ∷ ss) zero s e = omega arith
  there_inside (x ∷ ss) (suc k) s e = let l = there_inside ss k s e in omega (arith, l)
