use Rattle.job_view.proofs.Behind.{field, first, last}
use Rattle.job_view.proofs.axes.push_party_tick.Goals as goal

pub returns : goal.returns
returns c =
    last c.args.out.now.items _ _ _ _ c.push_text.result
    (field c.args.out.now.items _ _ _ _ _
    (field c.args.out.now.items _ _ _ _ _ (first c.args.out.now.items _ _ _ (rw c.saturating_sub.ensures at c.in_ok-push_field.ensures)) c.in_ok-push_field-2.ensures)
    c.in_ok-push_field-3.ensures)
    c.push_text.ensures
