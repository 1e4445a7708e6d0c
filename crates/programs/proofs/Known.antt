-- One superstep, by what its tasks left.
use Rattle.std.proofs.Common.{◌≡◌, ℕ, ◌≤◌, true, List, [], ◌∷◌, map, length, Option, None, refl, sym, ap, ◌∙◌, subst}
use Rattle.std.specs.Prelude.{ℤ}
use Rattle.superstep_memory.specs.declared.arrays.Put.{Put}
use Rattle.superstep_memory.specs.Paths.{is_rising}
use Rattle.phase_records.specs.PrintValue.{PrintValue}
use Rattle.programs.specs.Meaning.{Segment, Frame, NumbersItsSpawns, StaysTheSameTask}
use Rattle.programs.specs.Reads.{reads}
use Rattle.programs.specs.DeedValue.{DeedValue}
use Rattle.programs.specs.InPlace.{Reported, IsAllDone, deeds_of}
use Rattle.programs.specs.History.{Entry, says_in}
use Rattle.programs.specs.Done.{HasDoneAll}
use Rattle.programs.specs.declared.steps.RunState.{RunState}
use Rattle.programs.specs.RunState.{state_of_run, HasTaken}
use Rattle.programs.specs.Order.{AreOrdered}
use Rattle.programs.specs.Superstep.{State}
use Rattle.programs.proofs.Apart.{stays_in_order}
use Rattle.programs.proofs.RunState.{Fits, deeds_in, did, fits}
use Rattle.programs.proofs.History.{all_formed, numbers_in, stays_in, entries_rise, agrees}

module _ {S T : Type 0} (f : Frame T) (may : T → List (List ℕ × List ℤ) → ℕ → Segment T → Type 0) (most : ℕ) (meant : S → T)
    (path : S → List ℕ) (law : (t : S) → f.path (meant t) ≡ path t) where
  paths_read : (ts : List S) → map f.path (map meant ts) ≡ map path ts
  paths_read [] = refl
  paths_read (t ∷ ts) = λ i. law t i ∷ paths_read ts i

  -- what is known of a superstep
  pub record IsKnown (old : RunState S) (fault : Option (ℕ × List ℕ)) (puts : List Put) (us : List S) (ds : List (DeedValue S))
      (after : List PrintValue)
      (h : HasDoneAll f may meant path old.arrays old.step fault puts old.tasks.items us ds old.prints.items after) : Type 0 where
    pub numbers : NumbersItsSpawns (says_in f most h.entries)
    pub stays : StaysTheSameTask (says_in f most h.entries)
    pub reported : Reported (reads (says_in f most h.entries) meant path)
        (deeds_of (reads (says_in f most h.entries) meant path) old.arrays old.step old.tasks.items) old.step fault puts us ds
        old.prints.items after

  pub known : (old : RunState S) (fault : Option (ℕ × List ℕ)) (puts : List Put) (us : List S) (ds : List (DeedValue S))
      (after : List PrintValue)
      (h : HasDoneAll f may meant path old.arrays old.step fault puts old.tasks.items us ds old.prints.items after)
      → is_rising (map path old.tasks.items) ≡ true
      → IsKnown old fault puts us ds after h
  known old fault puts us ds after h r =
      let formed = all_formed f may old.arrays old.step h.entries h.allowed in
      let rise = entries_rise f (map meant old.tasks.items) h.entries h.tasks (ap is_rising (paths_read old.tasks.items) ∙ r) in
      record {
        numbers = numbers_in f most h.entries formed;
        stays = stays_in f most h.entries formed;
        reported = h.reported (says_in f most h.entries) (agrees f most old.arrays old.step h.entries rise);
      }

  -- and if no task reported a fault
  pub record IsCalm (old : RunState S) (puts : List Put) (us : List S) (ds : List (DeedValue S)) (after : List PrintValue)
      (entries : List (Entry T)) : Type 0 where
    pub numbers : NumbersItsSpawns (says_in f most entries)
    pub stays : StaysTheSameTask (says_in f most entries)
    pub done : IsAllDone (reads (says_in f most entries) meant path)
        (deeds_in (reads (says_in f most entries) meant path) law numbers stays old) old.step puts us ds old.prints.items after
    pub fits : Fits (reads (says_in f most entries) meant path) law numbers stays us ds

  pub calm : (old : RunState S) (fault : Option (ℕ × List ℕ)) (puts : List Put) (us : List S) (ds : List (DeedValue S))
      (after : List PrintValue)
      (h : HasDoneAll f may meant path old.arrays old.step fault puts old.tasks.items us ds old.prints.items after)
      → is_rising (map path old.tasks.items) ≡ true
      → length old.tasks.items ≤ most → fault ≡ None → IsCalm old puts us ds after h.entries
  calm old fault puts us ds after h r few none =
      let p = reads (says_in f most h.entries) meant path in
      let k = known old fault puts us ds after h r in
      let all = did p law k.numbers k.stays old fault puts us ds after k.reported none in
      record { numbers = k.numbers; stays = k.stays; done = all; fits = fits p law k.numbers k.stays old us ds all.done few r }

  -- the tasks that go on are in order
  pub order_kept : (old new : RunState S) → AreOrdered f (map meant old.tasks.items) → HasTaken f may most meant path None old new
      → AreOrdered f (map meant new.tasks.items)
  order_kept old new ordered h =
      let formed = all_formed f may old.arrays old.step h.entries h.entered.allowed in
      let s = says_in f most h.entries in
      let next =
      stays_in_order s (numbers_in f most h.entries formed) (stays_in f most h.entries formed) (state_of_run (reads s meant path) old)
      ordered in
      subst (AreOrdered f) (ap (λ (st : State T). st.live) (sym h.taken.state)) next
