-- A run on one thread that is taken superstep by superstep (own).
use Rattle.std.specs.Prelude.{◌≡◌, ℕ, ℤ, Bool, false, if◌then◌else◌, List, [], ◌++◌, map, Option, Some, None}
use Rattle.phase_records.specs.PrintValue.{PrintValue}
use Rattle.phase_records.specs.declared.record.PhaseRecord.{PhaseRecord}
use Rattle.phase_records.specs.Status.{Status}
use Rattle.phase_records.specs.ReportValue.{ReportValue}
use Rattle.programs.specs.Meaning.{Segment, Frame, Says}
use Rattle.programs.specs.Superstep.{State, superstep}
use Rattle.programs.specs.Supersteps.{status_of, so_far}
use Rattle.programs.specs.History.{Entry, IsEntered, says_in}

-- a run between two supersteps: how many were taken, the arrays, the live tasks, the prints and records that weren't taken away, the
-- fault that ended it, if one did, whether memory ran out in a superstep, how many tasks may live, and how many supersteps may be taken
pub record StepsValue (S : Type 0) : Type 0 where
  pub step : ℕ
  pub arrays : List (List ℕ × List ℤ)
  pub tasks : List S
  pub prints : List PrintValue
  pub records : List PhaseRecord
  pub fault : Option (ℕ × List ℕ)
  pub failed : Bool
  pub most : ℕ
  pub limit : ℕ

module _ {S : Type 0} where
  -- a run of which no superstep was taken
  abbrev pub begun : List (List ℕ × List ℤ) → List S → ℕ → ℕ → StepsValue S
  begun arrays tasks most limit = record {
    step = 0;
    arrays = arrays;
    tasks = tasks;
    prints = [];
    records = [];
    fault = None;
    failed = false;
    most = most;
    limit = limit;
  }

  -- how it has ended, if it has
  abbrev pub ended : StepsValue S → Option Status
  ended v = if v.failed then None else status_of v.limit v.step v.fault v.tasks

  -- another superstep can be taken
  pub record IsRunning (v : StepsValue S) : Type 0 where
    pub sound : v.failed ≡ false
    pub going : ended v ≡ None

  -- what it leaves if it ends so
  abbrev pub left_by : StepsValue S → Status → ReportValue
  left_by v s = record { prints = v.prints; records = v.records; arrays = v.arrays; status = s }

module _ {S T : Type 0} where
  abbrev pub state_in : (S → T) → StepsValue S → State T
  state_in meant v = record {
    step = v.step;
    arrays = v.arrays;
    live = map meant v.tasks;
    prints = v.prints;
    records = v.records;
    fault = v.fault;
  }

module _ {T : Type 0} where
  abbrev pub live_after : Option (ℕ × List ℕ) → List T → List T
  live_after None live = live
  live_after (Some f) live = []

  -- after a fault no task is kept
  abbrev pub as_kept : State T → State T
  as_kept st = record st { live = live_after st.fault st.live }

  -- a state with prints and records of earlier supersteps, which were taken away
  abbrev pub with_taken : List PrintValue → List PhaseRecord → State T → State T
  with_taken ps rs st = record st { prints = ps ++ st.prints; records = rs ++ st.records }

module _ {S T : Type 0} where
  -- one superstep was taken, by what the live tasks left
  pub record HasStepped (f : Frame T) (may : T → List (List ℕ × List ℤ) → ℕ → Segment T → Type 0) (meant : S → T)
      (old new : StepsValue S) : Type 0 where
    pub entries : List (Entry T)
    pub entered : IsEntered f may (state_in meant old) entries
    pub state : state_in meant new ≡ as_kept (superstep (says_in f old.most entries) (state_in meant old))
    pub sound : new.failed ≡ false
    pub most : new.most ≡ old.most
    pub limit : new.limit ≡ old.limit

  -- a run whose tasks mean this, after `n` supersteps, or as it ended before; these of its prints and records were taken away
  pub record IsSoFar (s : Says T) (arrays : List (List ℕ × List ℤ)) (tasks : List T) (n : ℕ) (meant : S → T) (ps : List PrintValue)
      (rs : List PhaseRecord) (v : StepsValue S) : Type 0 where
    pub state : with_taken ps rs (state_in meant v) ≡ as_kept (so_far s arrays tasks v.limit n)
    pub sound : v.failed ≡ false
    pub few : v.most ≡ s.most
