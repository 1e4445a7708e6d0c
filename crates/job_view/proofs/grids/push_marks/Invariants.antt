use Rattle.std.proofs.Common.{◌≡◌, ◌++◌, length}
use Rattle.job_view.specs.Grids.{marks_from}
use Rattle.job_view.proofs.grids.push_marks.Given as goal

abbrev pub invariant-loop-value : goal.invariant-loop-value
invariant-loop-value l =
    l.out.items ++ marks_from l.extent l.across l.dark l.count l.rest
    ≡ l.fn.out.items ++ marks_from l.extent l.across l.dark l.count l.fn.values

abbrev pub decreases-loop-value : goal.decreases-loop-value
decreases-loop-value l = length l.rest
