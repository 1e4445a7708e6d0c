use Rattle.std.proofs.Common.{◌≡◌, drop}
use Rattle.std.specs.List.{fold}
use Rattle.std.specs.Int.{int_max}
use Rattle.job_view.specs.Cells.{most}
use Rattle.job_view.proofs.cells.most.Given as goal

abbrev pub invariant-loop-value : goal.invariant-loop-value
invariant-loop-value l = fold int_max l.high (drop l.value-index l.rest) ≡ most l.fn.values
