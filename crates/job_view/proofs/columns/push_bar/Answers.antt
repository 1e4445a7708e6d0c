use Rattle.job_view.proofs.Behind.{field, onto, last}
use Rattle.job_view.proofs.columns.push_bar.Goals as goal

pub returns : goal.returns
returns c =
    last c.args.out.now.items _ _ _ _ c.push_text-3.result
    (field c.args.out.now.items _ _ _ _ _
    (field c.args.out.now.items _ _ _ _ _
    (field c.args.out.now.items _ _ _ _ _
    (field c.args.out.now.items _ _ _ _ _ (onto c.args.out.now.items _ _ _ _ c.in_ok-push_text.ensures c.in_ok-push_text-2.ensures) c.in_ok-push_field.ensures)
    (rw c.saturating_sub.ensures at c.in_ok-push_field-2.ensures))
    c.in_ok-push_field-3.ensures)
    c.in_ok-push_field-4.ensures)
    c.push_text-3.ensures
