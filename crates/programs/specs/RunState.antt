-- A run between two supersteps, as one thread keeps it, and one superstep of it.
use Rattle.std.specs.Prelude.{◌≡◌, ◌⊎◌, ℕ, ◌+◌, ◌≤◌, ℤ, List, map, length, Option, Some, None}
use Rattle.phase_records.specs.declared.record.PhaseRecord.{PhaseRecord}
use Rattle.programs.specs.declared.steps.RunState.{RunState}
use Rattle.programs.specs.Meaning.{Segment, Frame}
use Rattle.programs.specs.Reads.{Reads, reads}
use Rattle.programs.specs.History.{Entry, IsEntered, says_in}
use Rattle.programs.specs.Superstep.{State, superstep, ended_by}

module _ {S T : Type 0} where
  abbrev pub state_of_run : Reads S T → RunState S → State T
  state_of_run p c = record {
    step = c.step;
    arrays = c.arrays;
    live = map p.meant c.tasks.items;
    prints = c.prints.items;
    records = c.records.items;
    fault = None;
  }

  -- if a fault ended the run its tasks mean nothing
  pub record HasFaulted (p : Reads S T) (f : ℕ × List ℕ) (old new : RunState S) : Type 0 where
    pub fault : superstep p.says (state_of_run p old) ≡ ended_by (state_of_run p old) f
    pub step : new.step ≡ old.step
    pub arrays : new.arrays ≡ old.arrays
    pub prints : new.prints.items ≡ old.prints.items
    pub records : new.records.items ≡ old.records.items

  pub record HasGone (p : Reads S T) (old new : RunState S) : Type 0 where
    pub state : state_of_run p new ≡ superstep p.says (state_of_run p old)
    pub step : new.step ≡ old.step + 1
    pub few : length new.tasks.items ≤ p.says.most

  -- one superstep was taken, or a fault ended the run in it
  abbrev pub HasTakenOne : Reads S T → Option (ℕ × List ℕ) → RunState S → RunState S → Type 0
  HasTakenOne p None old new = HasGone p old new
  HasTakenOne p (Some f) old new = HasFaulted p f old new

  -- one superstep was taken, or a fault ended the run in it, by what the live tasks left
  pub record HasTaken (f : Frame T) (may : T → List (List ℕ × List ℤ) → ℕ → Segment T → Type 0) (most : ℕ) (meant : S → T)
      (path : S → List ℕ) (fault : Option (ℕ × List ℕ)) (old new : RunState S) : Type 0 where
    pub entries : List (Entry T)
    pub entered : IsEntered f may (state_of_run (reads (says_in f most entries) meant path) old) entries
    pub taken : HasTakenOne (reads (says_in f most entries) meant path) fault old new

-- there is room for the next live tasks, if tasks came or left
abbrev pub HasRoom : PhaseRecord → ℕ → ℕ → Type 0
HasRoom reported living waiting =
    ((reported.left ≡ 0) × (reported.spawned ≡ 0)) ⊎ ((reported.parties ≤ living + reported.left) × (reported.spawned ≤ waiting))
