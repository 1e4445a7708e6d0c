-- Live tasks with what was delivered for them (own).
use Rattle.std.specs.Prelude.{ℕ, zero, suc, ◌+◌, List, [], ◌∷◌, ◌++◌, map, Option, Some, None}
use Rattle.std.specs.Option.{option_map}
use Rattle.phase_records.specs.PrintValue.{PrintValue}
use Rattle.phase_records.specs.declared.record.PhaseRecord.{PhaseRecord}
use Rattle.task_lang.specs.Meaning.{Plan, Task, Segment}
use Rattle.task_lang.specs.Views.{task_of, meant}
use Rattle.task_lang.specs.SegmentValue.{SegmentValue}
use Rattle.step_core.specs.SlotValue.{SlotValue}
use Rattle.step_core.specs.FinishedValue.{FinishedValue}
use Rattle.programs.specs.Superstep.{prints_of, record_of}

-- a live task, and its segment once it was delivered
pub record Slot : Type 0 where
  pub task : Task
  pub done : Option Segment

abbrev pub slot_of : List Plan → SlotValue → Slot
slot_of ps s = record { task = task_of ps s.task; done = option_map (meant ps) s.done }

abbrev pub slots_of : List Plan → List SlotValue → List Slot
slots_of ps ss = map (slot_of ps) ss

abbrev pub task_in : Slot → Task
task_in s = s.task

-- nothing was delivered for this task
abbrev pub fresh : Task → Slot
fresh t = record { task = t; done = None }

abbrev pub with_done : List ℕ → Option Segment → List (List ℕ × Segment) → List (List ℕ × Segment)
with_done path None rest = rest
with_done path (Some g) rest = (path, g) ∷ rest

-- what was delivered, each segment with the path of its task
abbrev pub delivered : List Slot → List (List ℕ × Segment)
delivered [] = []
delivered (s ∷ ss) = with_done s.task.path s.done (delivered ss)

abbrev pub or_missing : Option Segment → List ℕ → Option (List ℕ) → Option (List ℕ)
or_missing None path rest = Some path
or_missing (Some g) path rest = rest

-- the first path for whose task nothing was delivered
abbrev pub first_missing : List Slot → Option (List ℕ)
first_missing [] = None
first_missing (s ∷ ss) = or_missing s.done s.task.path (first_missing ss)

abbrev pub one_missing : Option SegmentValue → ℕ
one_missing None = 1
one_missing (Some g) = 0

-- for how many tasks nothing was delivered
abbrev pub missing_in : List SlotValue → ℕ
missing_in [] = 0
missing_in (s ∷ ss) = one_missing s.done + missing_in ss

-- the segment of the task at this place was delivered
abbrev pub with_segment : List SlotValue → ℕ → SegmentValue → List SlotValue
with_segment [] place g = []
with_segment (s ∷ ss) zero g = record { task = s.task; done = Some g } ∷ ss
with_segment (s ∷ ss) (suc place) g = s ∷ with_segment ss place g

-- what supersteps printed, one after another
abbrev pub all_prints : List FinishedValue → List PrintValue
all_prints [] = []
all_prints (f ∷ fs) = f.prints ++ all_prints fs

abbrev pub counts_of : FinishedValue → PhaseRecord
counts_of f = f.counts

abbrev pub all_counts : List FinishedValue → List PhaseRecord
all_counts fs = map counts_of fs

-- what a superstep of these segments prints and records
abbrev pub finished_by : ℕ → List (List ℕ × Segment) → FinishedValue
finished_by step ss = record { prints = prints_of step ss; counts = record_of step ss }
