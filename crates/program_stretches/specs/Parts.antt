-- What a stretch has done of its superstep, and what stretches are together (own).
use Rattle.std.specs.Prelude.{◌≡◌, ◌<◌, ◌==◌, ◌&&◌, ℕ, ℤ, ◌+◌, ◌-◌, nat_lt, if◌then◌else◌, Bool, true, false, not, List, [], ◌∷◌, ◌++◌, length, drop, Option, Some, None}
use Rattle.std.specs.List.{list_all}
use Rattle.superstep_memory.specs.declared.arrays.Put.{Put}
use Rattle.superstep_memory.specs.Landing.{is_set, over_in}
use Rattle.phase_records.specs.PrintValue.{PrintValue}
use Rattle.programs.specs.Meaning.{Segment, Frame}
use Rattle.programs.specs.Superstep.{or_next}
use Rattle.programs.specs.History.{Setup}
use Rattle.programs.specs.DeedValue.{DeedValue}
use Rattle.programs.specs.InPlace.{living_with, made_in}
use Rattle.programs.specs.Done.{HasDoneRange}
use Rattle.program_stretches.specs.PartValue.{PartValue}

-- how the tasks of a program are read: where they are, what they may leave, what they mean, and their paths
pub record Reading (S T : Type 0) : Type 1 where
  pub frame : Frame T
  pub may : T → List (List ℕ × List ℤ) → ℕ → Segment T → Type 0
  pub meant : S → T
  pub path : S → List ℕ

abbrev pub reading_of : {Q S T : Type 0} → (Q → Frame T) → (Q → T → List (List ℕ × List ℤ) → ℕ → Segment T → Type 0) → (Q → S → T)
    → (S → List ℕ) → Q → Reading S T
reading_of frame may meant path q = record { frame = frame q; may = may q; meant = meant q; path = path }

-- the setup of a run of tasks that are read so
abbrev pub setup_by : {S T : Type 0} → Reading S T → ℕ → List (List ℕ × List ℤ) → List T → ℕ → Setup T
setup_by r most arrays tasks limit =
    record { frame = r.frame; may = r.may; most = most; arrays = arrays; tasks = tasks; limit = limit }

module _ {S : Type 0} where
  -- one whose tasks haven't run
  abbrev pub fresh_part : ℕ → List S → PartValue S
  fresh_part first tasks =
      record { first = first; tasks = tasks; done = false; puts = []; deeds = []; prints = []; fault = None; settled = false }

module _ {S T : Type 0} where
  -- these tasks ran at this step over these arrays, and this is what they left; or the first fault of theirs is known
  abbrev pub HasRun : Reading S T → List (List ℕ × List ℤ) → ℕ → List S → PartValue S → Type 0
  HasRun r arrays step olds part =
      HasDoneRange r.frame r.may r.meant r.path arrays step part.fault 0 (length olds) [] part.puts olds part.tasks [] part.deeds []
      part.prints

  -- none of these tasks has run, or all have
  abbrev pub HasDone : Reading S T → List (List ℕ × List ℤ) → ℕ → Bool → List S → PartValue S → Type 0
  HasDone r arrays step false olds part = part ≡ fresh_part part.first olds
  HasDone r arrays step true olds part = HasRun r arrays step olds part × (length part.tasks ≡ length olds)

  -- it is of these live tasks; once it is settled, none of its puts adds
  pub record IsPartOf (r : Reading S T) (arrays : List (List ℕ × List ℤ)) (live : List S) (step : ℕ) (part : PartValue S) : Type 0 where
    pub olds : List S
    pub back : List S
    pub live_from : drop part.first live ≡ olds ++ back
    pub reported : HasDone r arrays step part.done olds part
    pub sets : part.settled ≡ true → list_all is_set part.puts ≡ true

  -- one that is there is of these live tasks
  abbrev pub IsOwn : Reading S T → List (List ℕ × List ℤ) → List S → ℕ → Option (PartValue S) → Type 0
  IsOwn r arrays live step None = Unit {0}
  IsOwn r arrays live step (Some part) = IsPartOf r arrays live step part

  abbrev pub AreOwn : Reading S T → List (List ℕ × List ℤ) → List S → ℕ → List (Option (PartValue S)) → Type 0
  AreOwn r arrays live step [] = Unit {0}
  AreOwn r arrays live step (s ∷ ss) = IsOwn r arrays live step s × AreOwn r arrays live step ss

-- whether it is as said
abbrev pub is_done : Bool → Bool → Bool
is_done true done = done
is_done false done = not done

module _ {S : Type 0} where
  -- what each that is there has, one after another
  abbrev pub of_slot : {A : Type 0} → (PartValue S → List A) → Option (PartValue S) → List A
  of_slot f None = []
  of_slot f (Some part) = f part

  abbrev pub in_turn : {A : Type 0} → (PartValue S → List A) → List (Option (PartValue S)) → List A
  in_turn f [] = []
  in_turn f (s ∷ ss) = of_slot f s ++ in_turn f ss

  abbrev pub tasks_in : List (Option (PartValue S)) → List S
  tasks_in ss = in_turn (λ part. part.tasks) ss

  abbrev pub puts_in : List (Option (PartValue S)) → List Put
  puts_in ss = in_turn (λ part. part.puts) ss

  abbrev pub deeds_in : List (Option (PartValue S)) → List (DeedValue S)
  deeds_in ss = in_turn (λ part. part.deeds) ss

  abbrev pub prints_in : List (Option (PartValue S)) → List PrintValue
  prints_in ss = in_turn (λ part. part.prints) ss

  -- of their tasks those that go on, each with the tasks that it spawned
  abbrev pub living_in : List (Option (PartValue S)) → List S
  living_in ss = in_turn (λ part. living_with part.tasks part.deeds) ss

  -- whether the task whose put is at this place of all puts, by their deeds, is of a stretch that is settled
  abbrev pub settled_at : List (Option (PartValue S)) → ℕ → Bool
  settled_at [] place = false
  settled_at (None ∷ ss) place = settled_at ss place
  settled_at (Some part ∷ ss) place =
      if nat_lt place (made_in part.deeds) then part.settled else settled_at ss (place - made_in part.deeds)

  -- if one of these puts overflows, its task can be found
  abbrev pub FindsMaker : List (List ℕ × List ℤ) → List Put → List (Option (PartValue S)) → Type 0
  FindsMaker arrays puts ss =
      (place : ℕ) → Some place ≡ over_in arrays [] 0 puts → (settled_at ss place ≡ false) × (place < made_in (deeds_in ss))

  -- none of their tasks faulted, and each of them has a deed
  abbrev pub EachDid : List (Option (PartValue S)) → Type 0
  EachDid [] = Unit {0}
  EachDid (None ∷ ss) = EachDid ss
  EachDid (Some part ∷ ss) = (part.fault ≡ None) × (length part.tasks ≡ length part.deeds) × EachDid ss

  abbrev pub fault_of : Option (PartValue S) → Option (ℕ × List ℕ)
  fault_of None = None
  fault_of (Some part) = part.fault

  -- the first fault
  abbrev pub fault_in : List (Option (PartValue S)) → Option (ℕ × List ℕ)
  fault_in [] = None
  fault_in (s ∷ ss) = or_next (fault_of s) (fault_in ss)

  -- these stretches are all there, have run or not as said, and follow one another from this place to the end
  abbrev pub covers : Bool → ℕ → ℕ → List (Option (PartValue S)) → Bool
  covers done end at [] = at == end
  covers done end at (None ∷ ss) = false
  covers done end at (Some part ∷ ss) = (part.first == at) && is_done done part.done && covers done end (at + length part.tasks) ss

  -- these are all there, follow one another from this place on, and none has run
  abbrev pub AreFresh : ℕ → List (Option (PartValue S)) → Type 0
  AreFresh at [] = Unit {0}
  AreFresh at (None ∷ ss) = ⊥
  AreFresh at (Some part ∷ ss) = (part ≡ fresh_part at part.tasks) × AreFresh (at + length part.tasks) ss

  -- what is left of one whose puts were moved away, or whose tasks and deeds
  abbrev pub without_puts : Option (PartValue S) → Option (PartValue S)
  without_puts None = None
  without_puts (Some part) = Some (record part { puts = [] })

  abbrev pub without_tasks : Option (PartValue S) → Option (PartValue S)
  without_tasks None = None
  without_tasks (Some part) = Some (record part { tasks = []; deeds = [] })

  abbrev pub without_prints : Option (PartValue S) → Option (PartValue S)
  without_prints None = None
  without_prints (Some part) = Some (record part { prints = [] })

  -- the same stretches before the next superstep
  abbrev pub renewed : Option (PartValue S) → Option (PartValue S)
  renewed None = None
  renewed (Some part) = Some (fresh_part part.first part.tasks)
