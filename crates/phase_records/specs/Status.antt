-- How a job ends (own).
use Rattle.std.specs.Prelude.{ℕ, ◌≤◌, List, length}

-- after so many supersteps; by the fault of this number, in this superstep, by the task of this path; with tasks that
-- still live after so many supersteps
pub data Status : Type 0 where
  Ended : ℕ → Status
  Fault : ℕ → ℕ → List ℕ → Status
  Limit : ℕ → Status

-- the path of a task that faulted has at most 8 numbers
abbrev pub IsShort : Status → Type 0
IsShort (Ended steps) = Unit {0}
IsShort (Fault code step path) = length path ≤ 8
IsShort (Limit steps) = Unit {0}
