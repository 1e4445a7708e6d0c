-- The cells of an array over supersteps (own).
use Rattle.std.specs.Prelude.{ℕ, zero, suc, ◌*◌, ℤ, List, [], ◌++◌, Option, Some, None}
use Rattle.step_core.specs.Program.{Program}
use Rattle.step_core.specs.JobMeaning.{so_far}
use Rattle.job_view.specs.Look.{named}

-- the cells of the array of this name, if there is one
abbrev pub cells_or_none : Option (List ℤ) → List ℤ
cells_or_none None = []
cells_or_none (Some cells) = cells

-- its cells after `step` supersteps, or as the job ended before
abbrev pub row_at : Program → ℕ → List ℕ → ℕ → List ℤ
row_at p limit name step = cells_or_none (named name (so_far p limit step).arrays)

-- its cells after 0, every, 2 every .. supersteps, a number of times, one after another
abbrev pub rows : Program → ℕ → List ℕ → ℕ → ℕ → List ℤ
rows p limit name every zero = []
rows p limit name every (suc n) = rows p limit name every n ++ row_at p limit name (every * n)
