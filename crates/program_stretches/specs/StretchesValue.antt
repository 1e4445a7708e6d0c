-- The supersteps of a program by stretches (own).
use Rattle.std.specs.Prelude.{◌≡◌, ◌≤◌, ◌⊎◌, ℕ, zero, suc, ◌+◌, ℤ, nat_le, if◌then◌else◌, Bool, true, false, not, ◌||◌, ◌&&◌, List, [], ◌∷◌, ◌++◌, map, length, slice_set, Option, Some, None, is_some}
use Rattle.superstep_memory.specs.declared.arrays.Put.{Put}
use Rattle.superstep_memory.specs.Landing.{over_in}
use Rattle.superstep_memory.specs.Paths.{is_rising}
use Rattle.programs.specs.DeedValue.{DeedValue}
use Rattle.atomic_table.specs.Seated.{TableId}
use Rattle.phase_records.specs.PrintValue.{PrintValue}
use Rattle.phase_records.specs.declared.record.PhaseRecord.{PhaseRecord}
use Rattle.phase_records.specs.Status.{Status, Ended, Fault, Limit}
use Rattle.programs.specs.Meaning.{children}
use Rattle.programs.specs.Superstep.{State}
use Rattle.programs.specs.InPlace.{living_with}
use Rattle.program_stretches.specs.PartValue.{PartValue}
use Rattle.program_stretches.specs.Parts.{Reading, setup_by, IsPartOf, AreOwn, covers}
use Rattle.program_stretches.specs.SuperstepStart.{SuperstepStartValue, live_of, states_by, AllOpen}
use Rattle.program_stretches.specs.Reached.{IsReached}
use Rattle.program_stretches.specs.Did.{DidAll}

-- A stretch that was taken: its place among those of its superstep, what its superstep began with, and its tasks. The log by this
-- name had these starts when it was taken, the last being that of the superstep of the stretch.
pub record StretchValue (Q S : Type 0) : Type 0 where
  pub name : TableId
  pub log : List (SuperstepStartValue Q S)
  pub program : Q
  pub number : ℕ
  pub step : ℕ
  pub arrays : List (List ℕ × List ℤ)
  pub part : PartValue S

-- A run: the starts of its supersteps, the last first, by the name of their log; its limits; how many supersteps it
-- has taken; what they left; how many tasks live, and the stretches of the next superstep that aren't taken. What the
-- first `given` supersteps printed and recorded was given away, and isn't among the prints and records.
pub record StretchesValue (Q S : Type 0) : Type 0 where
  pub name : TableId
  pub log : List (SuperstepStartValue Q S)
  pub program : Q
  pub most : ℕ
  pub limit : ℕ
  pub step : ℕ
  pub arrays : List (List ℕ × List ℤ)
  pub count : ℕ
  pub parts : List (Option (PartValue S))
  pub prints : List PrintValue
  pub records : List PhaseRecord
  pub fault : Option (ℕ × List ℕ)
  pub given : ℕ

module _ {Q S T : Type 0} where
  -- the run between two supersteps, if these tasks live
  abbrev pub state_with : StretchesValue Q S → List T → State T
  state_with v live = record { step = v.step; arrays = v.arrays; live = live; prints = v.prints; records = v.records; fault = v.fault }

  -- a stretch of a superstep that began with this; the paths of the live tasks rise
  pub record IsStretch (m : Q → Reading S T) (ready : Q → Type 0) (v : StretchValue Q S) : Type 0 where
    pub start : SuperstepStartValue Q S
    pub older : List (SuperstepStartValue Q S)
    pub is : v.log ≡ start ∷ older
    pub count : length v.log ≡ v.step + 1
    pub program : v.program ≡ start.program
    pub arrays : v.arrays ≡ start.arrays
    pub is_ready : ready v.program
    pub rising : is_rising (map (m v.program).path (live_of start)) ≡ true
    pub part : IsPartOf (m v.program) v.arrays (live_of start) v.step v.part

  -- the last start is that of the next superstep, and the stretches are of its live tasks
  pub record IsOpen (m : Q → Reading S T) (v : StretchesValue Q S) (live : List T) : Type 0 where
    pub start : SuperstepStartValue Q S
    pub older : List (SuperstepStartValue Q S)
    pub is : v.log ≡ start ∷ older
    pub count : length v.log ≡ v.step + 1
    pub program : v.program ≡ start.program
    pub arrays : v.arrays ≡ start.arrays
    pub lives : live ≡ map (m v.program).meant (live_of start)
    pub own : AreOwn (m v.program) v.arrays (live_of start) v.step v.parts

  -- the run began with the first start of the log
  pub record HasBegun (m : Q → Reading S T) (v : StretchesValue Q S) : Type 0 where
    pub first : SuperstepStartValue Q S
    pub since : List (SuperstepStartValue Q S)
    pub is : v.log ≡ since ++ first ∷ []
    pub program : v.program ≡ first.program
    pub most : v.most ≡ first.most
    pub limit : v.limit ≡ first.limit
    pub paths : map (m v.program).path (live_of first) ≡ children [] 0 (length (live_of first))

  -- It is the run after some of its supersteps, in which these tasks live. The starts are those of its supersteps.
  pub record IsAfter (m : Q → Reading S T) (v : StretchesValue Q S) (live : List T) : Type 0 where
    pub begun : HasBegun m v
    pub reached : IsReached
        (setup_by (m v.program) v.most begun.first.arrays (map (m v.program).meant (live_of begun.first)) v.limit)
        v.given (state_with v live)
    pub all_open : AllOpen (m v.program).meant v.log (states_by (m v.program) v.most reached.history begun.first v.limit)
    pub as_long : length reached.history ≤ length v.log
    pub count : v.count ≡ length live
    pub few : length live ≤ v.most

  -- And its stretches are of the next. If memory ran out, there are none.
  pub record IsRunSoFar (m : Q → Reading S T) (v : StretchesValue Q S) : Type 0 where
    pub live : List T
    pub after : IsAfter m v live
    pub opened : (v.parts ≡ []) ⊎ IsOpen m v live

  -- these stretches are all of the superstep that the run is in, their tasks have run and put this, and none faulted
  pub record HaveRun (m : Q → Reading S T) (v : StretchesValue Q S) (puts : List Put) (us : List S) (ds : List (DeedValue S))
      (after : List PrintValue) : Type 0 where
    pub start : SuperstepStartValue Q S
    pub older : List (SuperstepStartValue Q S)
    pub is : v.log ≡ start ∷ older
    pub count : length v.log ≡ v.step + 1
    pub begun : IsAfter m v (map (m v.program).meant (live_of start))
    pub did : DidAll (m v.program) v.arrays v.step None puts (live_of start) us ds after

  -- and the put at this place of all their puts overflows
  pub record OverflowsAt (m : Q → Reading S T) (v : StretchesValue Q S) (us : List S) (ds : List (DeedValue S)) (after : List PrintValue)
      (place : ℕ) : Type 0 where
    pub puts : List Put
    pub run : HaveRun m v puts us ds after
    pub over : Some place ≡ over_in v.arrays [] 0 puts

abbrev pub status_for : ℕ → ℕ → Option (ℕ × List ℕ) → ℕ → Option Status
status_for limit step (Some f) count = Some (Fault f.0 step f.1)
status_for limit step None zero = Some (Ended step)
status_for limit step None (suc n) = if nat_le limit step then Some (Limit step) else None

module _ {Q S : Type 0} where
  -- how the run has ended, if it has: by a fault, with no task left, or at the limit, looked at in this order
  abbrev pub status_in : StretchesValue Q S → Option Status
  status_in v = status_for v.limit v.step v.fault v.count

  -- with this at the place of this number
  abbrev pub with_slot : StretchesValue Q S → ℕ → Option (PartValue S) → StretchesValue Q S
  with_slot v number slot = record v { parts = slice_set v.parts number slot }

module _ {S : Type 0} where
  -- one that is there, and hasn't run
  abbrev pub ready_at : Option (Option (PartValue S)) → Bool
  ready_at None = false
  ready_at (Some None) = false
  ready_at (Some (Some part)) = not part.done

  -- the tasks of one that is there
  abbrev pub tasks_at : Option (Option (PartValue S)) → List S
  tasks_at None = []
  tasks_at (Some None) = []
  tasks_at (Some (Some part)) = part.tasks

  -- of the tasks of one that has run and is there those that go on, each with the tasks that it spawned
  abbrev pub living_at : Option (Option (PartValue S)) → List S
  living_at None = []
  living_at (Some None) = []
  living_at (Some (Some part)) = living_with part.tasks part.deeds

  -- a task of one that is there has faulted
  abbrev pub faulted_at : Option (Option (PartValue S)) → Bool
  faulted_at None = false
  faulted_at (Some None) = false
  faulted_at (Some (Some part)) = is_some part.fault

-- a run that ended at its limit
abbrev pub is_at_limit : Status → Bool
is_at_limit (Limit steps) = true
is_at_limit s = false

-- What it leaves can be had: the run has ended, and no stretch is out if tasks still live.
abbrev pub left_after : {Q S : Type 0} → StretchesValue Q S → Option Status → Bool
left_after v None = false
left_after v (Some s) = not (is_at_limit s) || covers false v.count 0 v.parts

abbrev pub can_leave : {Q S : Type 0} → StretchesValue Q S → Bool
can_leave v = left_after v (status_in v)

-- It can be stopped: it hasn't ended, and no stretch is out or has run.
abbrev pub can_stop : {Q S : Type 0} → StretchesValue Q S → Bool
can_stop v = not (is_some (status_in v)) && covers false v.count 0 v.parts
