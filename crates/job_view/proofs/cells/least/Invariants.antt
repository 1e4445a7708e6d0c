use Rattle.std.proofs.Common.{◌≡◌, drop}
use Rattle.std.specs.List.{fold}
use Rattle.std.specs.Int.{int_min}
use Rattle.job_view.specs.Cells.{least}
use Rattle.job_view.proofs.cells.least.Given as goal

abbrev pub invariant-loop-value : goal.invariant-loop-value
invariant-loop-value l = fold int_min l.low (drop l.value-index l.rest) ≡ least l.fn.values
