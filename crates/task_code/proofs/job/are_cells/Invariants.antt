use Rattle.std.proofs.Common.{◌≡◌, drop}
use Rattle.std.specs.List.{list_all}
use Rattle.text_lines.specs.Number.{fits_i64}
use Rattle.task_code.proofs.job.are_cells.Given as goal

abbrev pub invariant-loop-place : goal.invariant-loop-place
invariant-loop-place l = list_all (λ a. list_all fits_i64 a.1) l.arrays ≡ list_all (λ a. list_all fits_i64 a.1) (drop l.place l.arrays)
