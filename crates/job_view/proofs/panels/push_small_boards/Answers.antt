use Rattle.job_view.proofs.Behind.{onto}
use Rattle.job_view.proofs.Boards.{next_board}
use Rattle.job_view.proofs.panels.push_small_boards.Goals as goal

pub loop-more-preserved : goal.loop-more-preserved
loop-more-preserved c =
    next_board c.range_of-extent.result c.args.across c.args.every c.board_count-count.result c.args.cells c.loop-more.more c.loop-more.rest.now c.cut.result.1.now
    c.loop-more.out.items _ _ c.loop-more-test.true c.cut.ensures.back
    (onto c.loop-more.out.items _ _ _ _
    (rw (c.placed-place.ensures, c.small_frame-frame.ensures.frame, c.from.ensures, c.from-in-loop-more.ensures, c.saturating_sub-number.ensures) at c.in_ok-push_board_number.ensures)
    (rw (c.placed-place.ensures, c.small_frame-frame.ensures.frame, c.cut.ensures.front, c.saturating_sub-number.ensures) at c.in_ok-push_grid.ensures))
    c.loop-more.invariant
