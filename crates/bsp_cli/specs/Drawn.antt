-- What `draw` prints of a job's text (own).
use Rattle.std.specs.Prelude.{ℕ, Bool, true, false, List, [], ◌∷◌, Option, Some, None, Result, Ok, Err}
use Rattle.phase_records.specs.ReportValue.{ReportValue}
use Rattle.job_view.specs.Picture.{picture}
use Rattle.job_reader.specs.Trees.{JobTree}
use Rattle.job_reader.specs.Reading.{job_in}
use Rattle.job_view.specs.Drawing.{drawing}
use Rattle.job_view.specs.Look.{LookValue}
use Rattle.step_core.specs.Program.{Program}
use Rattle.text_lines.specs.declared.refusal.Refusal.{Refusal}
use Rattle.bsp_cli.specs.Jobs.{program_of_tree}

-- nothing is asked of the picture
abbrev pub is_bare_by : Option (List ℕ) → List ℕ → List ℕ → Bool
is_bare_by None [] [] = true
is_bare_by title widths over_time = false

abbrev pub is_bare : LookValue → Bool
is_bare look = is_bare_by look.title look.widths look.over_time

-- the picture of what a program leaves within a limit, as it is asked for
abbrev pub drawn_by : Bool → LookValue → Program → ℕ → ReportValue → List ℕ
drawn_by true look p limit r = picture r
drawn_by false look p limit r = drawing look p limit r

abbrev pub drawn : LookValue → Program → ℕ → ReportValue → List ℕ
drawn look p limit r = drawn_by (is_bare look) look p limit r

-- the program of a text, if it is that of a job
abbrev pub program_of_text : Result JobTree Refusal → Program
program_of_text (Ok job) = program_of_tree job
program_of_text (Err r) = record { arrays = []; plans = []; starts = [] }

-- the picture of what the job of a text leaves within a limit, as it is asked for
abbrev pub drawn_in : LookValue → ℕ → List ℕ → ReportValue → List ℕ
drawn_in look limit input r = drawn look (program_of_text (job_in input)) limit r
