-- What a watcher of a job on one thread sees (own).
use Rattle.std.specs.Prelude.{◌≡◌, ℕ, ℤ, List, None, length}
use Rattle.step_core.specs.Program.{Program}
use Rattle.step_core.specs.JobMeaning.{so_far}
use Rattle.programs.specs.Supersteps.{status}

-- Each superstep that a job begins within this limit: its number, from 0, the arrays as it begins, and how many tasks live. `seen` is
-- what a call says.
abbrev pub SawAll : (ℕ → List (List ℕ × List ℤ) → ℕ → Type 0) → Program → ℕ → Type 0
SawAll seen p limit = (n : ℕ) → status limit (so_far p limit n) ≡ None → seen n (so_far p limit n).arrays (length (so_far p limit n).live)
