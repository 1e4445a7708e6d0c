use Rattle.std.proofs.Common.{◌≡◌, ◌++◌, drop}
use Rattle.job_view.specs.Columns.{columns_of}
use Rattle.job_view.proofs.columns.columns_of.Given as goal

abbrev pub invariant-loop-counts : goal.invariant-loop-counts
invariant-loop-counts l = l.columns.items ++ columns_of l.prints (drop l.counts-index l.records) ≡ columns_of l.fn.prints l.fn.records
