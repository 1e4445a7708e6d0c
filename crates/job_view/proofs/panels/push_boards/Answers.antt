use Rattle.job_view.proofs.Behind.{last, onto}
use Rattle.job_view.proofs.panels.push_boards.Goals as goal

pub returns : goal.returns
returns c =
    last c.args.out.now.items _ _ _ _ c.push_text-2.result
    (onto c.args.out.now.items _ _ _ _
    (onto c.args.out.now.items _ _ _ _
    (onto c.args.out.now.items _ _ _ _
    (rw c.range_of.ensures at c.in_ok-push_caption.ensures)
    c.in_ok-push_spacing.ensures)
    c.in_ok-push_text.ensures)
    c.in_ok-push_small_boards.ensures)
    c.push_text-2.ensures
