use Rattle.std.proofs.Common.{◌≡◌, ◌++◌, length}
use Rattle.job_view.specs.Cells.{cells_from}
use Rattle.job_view.proofs.cells.push_cells.Given as goal

abbrev pub invariant-loop-value : goal.invariant-loop-value
invariant-loop-value l = l.out.items ++ cells_from l.extent l.count l.rest ≡ l.fn.out.items ++ cells_from l.extent l.count l.fn.values

abbrev pub decreases-loop-value : goal.decreases-loop-value
decreases-loop-value l = length l.rest
