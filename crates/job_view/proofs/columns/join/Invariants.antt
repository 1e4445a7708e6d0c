use Rattle.std.proofs.Common.{◌≡◌, ◌++◌}
use Rattle.job_view.specs.Columns.{joined}
use Rattle.job_view.proofs.columns.join.Given as goal

abbrev pub invariant-loop-more : goal.invariant-loop-more
invariant-loop-more l = l.all.items ++ joined l.more l.group l.rest ≡ joined l.fn.count l.group l.fn.columns

abbrev pub decreases-loop-more : goal.decreases-loop-more
decreases-loop-more l = l.more
