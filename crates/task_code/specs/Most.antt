-- The limits of bodies and jobs (own).
use Rattle.std.specs.Prelude.{ℕ}

-- of a body
abbrev pub most_locals : ℕ
most_locals = 32

abbrev pub most_statements : ℕ
most_statements = 1024

-- lines open at once
abbrev pub most_open : ℕ
most_open = 16

-- of a job
abbrev pub most_arrays : ℕ
most_arrays = 16

abbrev pub most_bodies : ℕ
most_bodies = 64

-- start lines, and tasks alive at once
abbrev pub most_tasks : ℕ
most_tasks = 4096

-- of an array
abbrev pub most_cells : ℕ
most_cells = 4096
