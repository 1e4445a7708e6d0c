use Rattle.std.proofs.Common.{◌≡◌, ◌++◌, drop}
use Rattle.job_view.specs.Cells.{strips_from}
use Rattle.job_view.proofs.cells.push_strips.Given as goal

abbrev pub invariant-loop-place : goal.invariant-loop-place
invariant-loop-place l = l.out.items ++ strips_from l.place (drop l.place l.arrays) ≡ l.fn.out.items ++ strips_from 0 l.arrays
