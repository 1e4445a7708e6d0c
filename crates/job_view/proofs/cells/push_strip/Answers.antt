use Rattle.job_view.proofs.Behind.{field, last, onto}
use Rattle.job_view.proofs.cells.push_strip.Goals as goal

pub returns : goal.returns
returns c =
    last c.args.out.now.items _ _ _ _ c.push_text-3.result
    (onto c.args.out.now.items _ _ _ _
    (onto c.args.out.now.items _ _ _ _
    (onto c.args.out.now.items _ _ _ _
    (onto c.args.out.now.items _ _ _ _
    (field c.args.out.now.items _ _ _ _ _ (rw c.range_of-extent.ensures at c.in_ok-push_caption.ensures) c.in_ok-push_field.ensures)
    c.in_ok-push_text.ensures)
    (rw c.range_of-extent.ensures at c.in_ok-push_cells.ensures))
    c.in_ok-push_text-2.ensures)
    c.in_ok-push_shown_values.ensures)
    c.push_text-3.ensures
