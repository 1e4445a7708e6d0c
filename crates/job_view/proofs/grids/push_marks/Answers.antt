use Rattle.job_view.proofs.Behind.{next}
use Rattle.job_view.proofs.grids.push_marks.Goals as goal

pub loop-value-preserved : goal.loop-value-preserved
loop-value-preserved c =
    next _ _ _ _ _ (rw (c.saturating_sub-at.ensures, c.in-Some.ensures.cases.0) at c.in_ok-push_mark_if.ensures)
    (rw c.in-Some.ensures.cases.0 at c.loop-value.invariant)
