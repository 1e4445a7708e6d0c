use Rattle.job_view.proofs.Behind.{next}
use Rattle.job_view.proofs.cells.push_cells.Goals as goal

pub loop-value-preserved : goal.loop-value-preserved
loop-value-preserved c =
    next _ _ _ _ _ (rw (c.saturating_sub.ensures, c.shade.ensures, c.in-Some.ensures.cases.0) at c.in_ok-push_cell.ensures)
    (rw c.in-Some.ensures.cases.0 at c.loop-value.invariant)
