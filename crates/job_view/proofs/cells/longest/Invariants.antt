use Rattle.std.proofs.Common.{◌≡◌, ◌<◌, max, length, drop}
use Rattle.std.specs.List.{fold}
use Rattle.std.specs.Fmt.{signed_decimal}
use Rattle.job_view.specs.Cells.{longest}
use Rattle.job_view.proofs.cells.longest.Given as goal

abbrev pub invariant-loop-value : goal.invariant-loop-value
invariant-loop-value l = record {
  same : fold (λ n v. max n (length (signed_decimal v))) l.signs (drop l.value-index l.values) ≡ longest l.fn.values;
  some : 0 < l.signs;
}
