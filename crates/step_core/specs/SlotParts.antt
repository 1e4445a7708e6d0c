-- Parts of what was delivered for a task, as the code has them.
use Rattle.std.specs.Prelude.{◌≡◌, ℕ, ◌-◌, ◌≤◌, ◌<◌, nat_lt, if◌then◌else◌, slice_get, length, List, [], ◌∷◌, ◌++◌, Option, Some, None}
use Rattle.smallvec.specs.SmallVec.{SmallVec}
use Rattle.superstep_memory.specs.declared.arrays.Put.{Put}
use Rattle.task_lang.specs.TaskValue.{TaskValue}
use Rattle.task_lang.specs.SegmentValue.{SegmentValue}
use Rattle.task_lang.specs.declared.task.After.{After}
use Rattle.task_lang.specs.declared.task.After.TheVariants as after
use Rattle.step_core.specs.SlotValue.{SlotValue}

abbrev pub puts_of : Option SegmentValue → List Put
puts_of None = []
puts_of (Some g) = g.puts

-- the puts that were delivered for a task
abbrev pub puts_in : SlotValue → List Put
puts_in s = puts_of s.done

-- the puts of all tasks, one after another, as far as was delivered
abbrev pub log_in : List SlotValue → List Put
log_in [] = []
log_in (s ∷ ss) = puts_in s ++ log_in ss

-- the path of the task whose put is at this place of them
abbrev pub path_at : List SlotValue → ℕ → Option (List ℕ)
path_at [] place = None
path_at (s ∷ ss) place = if nat_lt place (length (puts_in s)) then Some s.task.path else path_at ss (place - length (puts_in s))

-- fault 8 of a task
abbrev pub overflow_at : List ℕ → ℕ × List ℕ
overflow_at path = (8, path)

abbrev pub synced_in : After → List TaskValue
synced_in (after.Synced t) = t ∷ []
synced_in after.Stopped = []
synced_in (after.Fault f) = []

abbrev pub living_of : Option SegmentValue → List TaskValue
living_of None = []
living_of (Some g) = synced_in g.after ++ g.spawns

-- the tasks that live on, as far as was delivered
abbrev pub living_in : List SlotValue → List TaskValue
living_in [] = []
living_in (s ∷ ss) = living_of s.done ++ living_in ss

abbrev pub path_in : TaskValue → List ℕ
path_in t = t.path

abbrev pub path_of : SmallVec ℕ → List ℕ
path_of p = p.items

-- nothing was delivered for this task
abbrev pub fresh_slot : TaskValue → SlotValue
fresh_slot t = record { task = t; done = None }

abbrev pub IsSmall : Option SegmentValue → Type 0
IsSmall None = Unit {0}
IsSmall (Some g) = length g.spawns ≤ 8

-- no segment that was delivered spawns over eight tasks
abbrev pub AllSmall : List SlotValue → Type 0
AllSmall [] = Unit {0}
AllSmall (s ∷ ss) = IsSmall s.done × AllSmall ss

abbrev pub IsPath : List ℕ → Option SlotValue → Type 0
IsPath path None = ⊥
IsPath path (Some s) = s.task.path ≡ path

-- the task at this place has this path
pub record IsPlaceOf (ss : List SlotValue) (p : List ℕ) (place : ℕ) : Type 0 where
  pub below : place < length ss
  pub path : IsPath p (slice_get ss place)

-- tasks, each beside what was delivered for it, by place
abbrev pub beside : List TaskValue → List (Option SegmentValue) → List SlotValue
beside [] ds = []
beside (t ∷ ts) [] = []
beside (t ∷ ts) (d ∷ ds) = record { task = t; done = d } ∷ beside ts ds

-- the tasks that live on after what was delivered
abbrev pub living_by : List (Option SegmentValue) → List TaskValue
living_by [] = []
living_by (d ∷ ds) = living_of d ++ living_by ds

-- nothing was delivered for a task
abbrev pub no_segment : TaskValue → Option SegmentValue
no_segment t = None
