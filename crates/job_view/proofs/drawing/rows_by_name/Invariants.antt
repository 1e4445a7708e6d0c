use Rattle.std.proofs.Common.{◌≡◌, ◌++◌, map, length}
use Rattle.text_lines.specs.Text.{words_of}
use Rattle.step_core.specs.Program.{program_of}
use Rattle.job_view.specs.Drawing.{all_rows}
use Rattle.job_view.proofs.drawing.rows_by_name.Given as goal

abbrev pub invariant-loop-name : goal.invariant-loop-name
invariant-loop-name l =
    map (λ v. v.items) l.rows.items ++ all_rows (program_of l.job) l.limit l.steps (words_of l.rest)
    ≡ all_rows (program_of l.job) l.limit l.steps (words_of l.names)

abbrev pub decreases-loop-name : goal.decreases-loop-name
decreases-loop-name l = length l.rest
