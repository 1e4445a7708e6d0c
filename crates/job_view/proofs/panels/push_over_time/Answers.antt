use Rattle.job_view.proofs.Behind.{last, onto}
use Rattle.job_view.proofs.panels.push_over_time.Goals as goal

pub returns : goal.returns
returns c =
    last c.args.out.now.items _ _ _ _ c.push_text-2.result
    (onto c.args.out.now.items _ _ _ _
    (onto c.args.out.now.items _ _ _ _
    (onto c.args.out.now.items _ _ _ _
    (onto c.args.out.now.items _ _ _ _
    (rw c.range_of-extent.ensures at c.in_ok-push_caption.ensures)
    c.in_ok-push_spacing.ensures)
    c.in_ok-push_text.ensures)
    (rw (c.time_frame-frame.ensures.frame, c.across_of-across.ensures.across) at c.in_ok-push_row_numbers.ensures))
    (rw (c.range_of-extent.ensures, c.time_frame-frame.ensures.frame, c.across_of-across.ensures.across) at c.in_ok-push_grid.ensures))
    c.push_text-2.ensures
