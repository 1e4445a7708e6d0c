use Rattle.std.proofs.Common.{◌≡◌, ◌++◌}
use Rattle.job_view.specs.Panels.{boards_from}
use Rattle.job_view.proofs.panels.push_small_boards.Given as goal

abbrev pub invariant-loop-more : goal.invariant-loop-more
invariant-loop-more l =
    l.out.items ++ boards_from l.extent l.fn.across l.fn.every l.count l.fn.cells l.more l.rest
    ≡ l.fn.out.items ++ boards_from l.extent l.fn.across l.fn.every l.count l.fn.cells l.count l.fn.values

abbrev pub decreases-loop-more : goal.decreases-loop-more
decreases-loop-more l = l.more
