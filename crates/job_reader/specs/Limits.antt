-- Limits of a job that its text may exceed.
use Rattle.std.specs.Prelude.{ℕ}

-- the most cells of an array
abbrev pub most_cells : ℕ
most_cells = 4096

-- the most start lines of a job
abbrev pub most_starts : ℕ
most_starts = 4096
