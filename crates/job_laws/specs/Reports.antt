-- What the report of a job says of its supersteps (own).
use Rattle.std.specs.Prelude.{◌≡◌, ◌⊎◌, ℕ, suc, ◌+◌, ◌<◌, ◌≤◌, Bool, true, false, List, [], ◌∷◌, ◌++◌, length, map, sum_by, count_by, Some}
use Rattle.std.specs.List.{flat_map}
use Rattle.superstep_memory.specs.Landing.{first_over}
use Rattle.phase_records.specs.declared.record.PhaseRecord.{PhaseRecord}
use Rattle.phase_records.specs.ReportValue.{ReportValue}
use Rattle.phase_records.specs.ReportText.{report_text, array_line, status_line}
use Rattle.phase_records.specs.ReportLaws.{AreFrom, AreWithin, of_step, each_step}
use Rattle.task_lang.specs.FaultCode.{code_of}
use Rattle.task_lang.specs.declared.fault.Fault.{Fault}
use Rattle.task_lang.specs.Meaning.{Task, After}
use Rattle.programs.specs.Meaning.{Synced, Stopped, Faulted}
use Rattle.step_core.specs.Program.{Program}
use Rattle.step_core.specs.Superstep.{State, superstep, segments, next_live}
use Rattle.programs.specs.Superstep.{prints_of, log_of}
use Rattle.step_core.specs.JobMeaning.{so_far, report_of}
use Rattle.step_core.specs.Laws.{deed}

-- The records are those of phases 0, 1, 2, .., one for each superstep that was taken, and the prints are ordered by superstep.
pub record IsBySuperstep (st : State) : Type 0 where
  pub records : AreFrom 0 st.records
  pub taken : length st.records ≡ st.step
  pub prints : AreWithin 0 st.step st.prints

abbrev pub ReportsAreBySuperstep : Type 0
ReportsAreBySuperstep = (p : Program) (limit n : ℕ) → IsBySuperstep (so_far p limit n)

-- Every print of a report is in its text: the record of a superstep comes after all prints of that superstep, and no others.
abbrev pub TextsHaveEveryPrint : Type 0
TextsHaveEveryPrint =
    (p : Program) (limit : ℕ) (r : ReportValue) → report_of p limit ≡ Some r
    → report_text r ≡ each_step r.prints r.records ++ flat_map array_line r.arrays ++ status_line r.status

-- The prints of each superstep that was taken are what its tasks printed in it.
abbrev pub PrintsAreOfTheirSuperstep : Type 0
PrintsAreOfTheirSuperstep =
    (p : Program) (limit n k : ℕ) → k < (so_far p limit n).step
    → of_step k (so_far p limit n).prints ≡ prints_of k (segments p (so_far p limit k).arrays k (so_far p limit k).live)

abbrev pub has_stopped : After → Bool
has_stopped (Synced t) = false
has_stopped Stopped = true
has_stopped (Faulted f) = false

-- what a record says of the superstep of this state: its phase; those live and those spawned; how many were spawned, and how many stopped
pub record Tells (p : Program) (st : State) (r : PhaseRecord) : Type 0 where
  pub phase : r.phase ≡ st.step
  pub parties : r.parties ≡ length st.live + r.spawned
  pub spawned : r.spawned ≡ sum_by (λ t. length (deed p st t).spawns) st.live
  pub left : r.left ≡ count_by (λ t. has_stopped (deed p st t).after) st.live

-- these records describe the supersteps from this one on
abbrev pub TellFrom : Program → ℕ → ℕ → List PhaseRecord → Type 0
TellFrom p limit k [] = Unit {0}
TellFrom p limit k (r ∷ rs) = Tells p (so_far p limit k) r × TellFrom p limit (suc k) rs

-- Each record describes its superstep.
abbrev pub RecordsTellSupersteps : Type 0
RecordsTellSupersteps = (p : Program) (limit n : ℕ) → TellFrom p limit 0 (so_far p limit n).records

abbrev pub HasNoFault : After → Type 0
HasNoFault (Synced t) = Unit {0}
HasNoFault Stopped = Unit {0}
HasNoFault (Faulted f) = ⊥

-- none of these tasks faults in this state
abbrev pub NoneFaults : Program → State → List Task → Type 0
NoneFaults p st [] = Unit {0}
NoneFaults p st (t ∷ ts) = HasNoFault (deed p st t).after × NoneFaults p st ts

-- the first of these tasks that faults, with its fault's code and its path
pub record IsFirstFault (p : Program) (st : State) (tasks : List Task) (reported : ℕ × List ℕ) : Type 0 where
  pub front : List Task
  pub here : Task
  pub back : List Task
  pub fault : Fault
  pub whole : tasks ≡ front ++ here ∷ back
  pub before : NoneFaults p st front
  pub faults : (deed p st here).after ≡ Faulted (code_of fault)
  pub code : reported.0 ≡ code_of fault
  pub path : reported.1 ≡ here.path

-- no task faults, and over 4096 would live on: fault 7, of no task
pub record IsTooMany (p : Program) (st : State) (reported : ℕ × List ℕ) : Type 0 where
  pub none : NoneFaults p st st.live
  pub many : 4096 < length (next_live (segments p st.arrays st.step st.live))
  pub code : reported.0 ≡ 7
  pub path : reported.1 ≡ []

-- no task faults, at most 4096 would live on, and a put overflows: fault 8, of the task that made the first of these
pub record IsOverflow (p : Program) (st : State) (reported : ℕ × List ℕ) : Type 0 where
  pub none : NoneFaults p st st.live
  pub few : length (next_live (segments p st.arrays st.step st.live)) ≤ 4096
  pub place : ℕ
  pub over : first_over st.arrays (map log_of (segments p st.arrays st.step st.live)) ≡ Some (reported.1, place)
  pub code : reported.0 ≡ 8

-- A superstep that ends the job by a fault reports the first faulting live task, or that too many would live on, or the first put
-- that overflows.
abbrev pub FaultsTellTheFirst : Type 0
FaultsTellTheFirst =
    (p : Program) (st : State) (reported : ℕ × List ℕ) → (superstep p st).fault ≡ Some reported
    → IsFirstFault p st st.live reported ⊎ (IsTooMany p st reported ⊎ IsOverflow p st reported)
