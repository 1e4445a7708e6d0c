use Rattle.job_view.proofs.Behind.{field, last, onto}
use Rattle.job_view.proofs.panels.push_board.Goals as goal

pub returns : goal.returns
returns c =
    last c.args.out.now.items _ _ _ _ c.push_text-2.result
    (onto c.args.out.now.items _ _ _ _
    (onto c.args.out.now.items _ _ _ _
    (field c.args.out.now.items _ _ _ _ _
    (rw c.range_of-extent.ensures at c.in_ok-push_caption.ensures)
    c.in_ok-push_field.ensures)
    c.in_ok-push_text.ensures)
    (rw (c.range_of-extent.ensures, c.board_frame-frame.ensures) at c.in_ok-push_grid.ensures))
    c.push_text-2.ensures
