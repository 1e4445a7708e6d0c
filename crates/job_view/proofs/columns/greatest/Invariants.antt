use Rattle.std.proofs.Common.{◌≡◌, drop}
use Rattle.std.specs.List.{fold}
use Rattle.job_view.specs.Columns.{greater, greatest}
use Rattle.job_view.proofs.columns.greatest.Given as goal

abbrev pub invariant-loop-column : goal.invariant-loop-column
invariant-loop-column l = fold greater l.all (drop l.column-index l.rest) ≡ greatest l.fn.columns
