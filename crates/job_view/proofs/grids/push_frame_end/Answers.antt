use Rattle.job_view.proofs.Behind.{field, first, last}
use Rattle.job_view.proofs.grids.push_frame_end.Goals as goal

pub returns : goal.returns
returns c =
    last c.args.out.now.items _ _ _ _ c.push_text.result
    (field c.args.out.now.items _ _ _ _ _
    (field c.args.out.now.items _ _ _ _ _
    (field c.args.out.now.items _ _ _ _ _
    (field c.args.out.now.items _ _ _ _ _
    (first c.args.out.now.items _ _ _ c.in_ok-push_field.ensures)
    c.in_ok-push_field-2.ensures)
    c.in_ok-push_field-3.ensures)
    c.in_ok-push_field-4.ensures)
    c.in_ok-push_field-5.ensures)
    c.push_text.ensures
