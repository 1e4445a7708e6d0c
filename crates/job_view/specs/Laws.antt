-- What rows are of a job's runs (own).
use Rattle.std.specs.Prelude.{◌≡◌, ◌≤◌, ℕ, List, Some}
use Rattle.phase_records.specs.ReportValue.{ReportValue}
use Rattle.step_core.specs.JobMeaning.{report_of}
use Rattle.step_core.specs.Program.{Program}
use Rattle.job_view.specs.Look.{named}
use Rattle.job_view.specs.Rows.{cells_or_none, row_at}

-- The row of a superstep is the array as a run leaves it whose limit is the number of that superstep.
abbrev pub RowsAreOfRuns : Type 0
RowsAreOfRuns =
    (p : Program) (limit step : ℕ) (name : List ℕ) (r : ReportValue) → step ≤ limit → report_of p step ≡ Some r
    → row_at p limit name step ≡ cells_or_none (named name r.arrays)
