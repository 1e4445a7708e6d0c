use Rattle.std.proofs.Common.{◌≡◌, ◌++◌, drop}
use Rattle.std.specs.List.{flat_map}
use Rattle.job_view.specs.Columns.{tick}
use Rattle.job_view.proofs.columns.push_all_ticks.Given as goal

abbrev pub invariant-loop-column : goal.invariant-loop-column
invariant-loop-column l = l.out.items ++ flat_map tick (drop l.column-index l.columns) ≡ l.fn.out.items ++ flat_map tick l.fn.columns
