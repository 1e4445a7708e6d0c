-- The picture of a job as it is asked for (own).
use Rattle.std.specs.Prelude.{ℕ, ℤ, List, map, length}
use Rattle.phase_records.specs.ReportValue.{ReportValue}
use Rattle.step_core.specs.Program.{Program}
use Rattle.job_view.specs.Look.{LookValue, every_of, looked, row_count}
use Rattle.job_view.specs.Words.{words_in}
use Rattle.job_view.specs.Rows.{rows}

-- the rows of each array that is drawn over supersteps, of a job that takes `steps`
abbrev pub all_rows : Program → ℕ → ℕ → List (List ℕ) → List (List ℤ)
all_rows p limit steps names = map (λ name. rows p limit name (every_of steps) (row_count steps)) names

-- The picture of what a job leaves within a limit: its arrays as it leaves them, and then the arrays that are drawn over supersteps, with
-- their cells before the supersteps 0, every, 2 every and so on, and at the end if that is one of these.
abbrev pub drawing : LookValue → Program → ℕ → ReportValue → List ℕ
drawing look p limit r = looked look (all_rows p limit (length r.records) (words_in look.over_time)) r
