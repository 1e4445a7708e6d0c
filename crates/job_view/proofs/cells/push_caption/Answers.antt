use Rattle.job_view.proofs.Behind.{field, first, last, onto}
use Rattle.job_view.proofs.cells.push_caption.Goals as goal

pub returns : goal.returns
returns c =
    last c.args.out.now.items _ _ _ _ c.push_signed-2.result
    (onto c.args.out.now.items _ _ _ _
    (onto c.args.out.now.items _ _ _ _
    (onto c.args.out.now.items _ _ _ _
    (field c.args.out.now.items _ _ _ _ _
    (onto c.args.out.now.items _ _ _ _
    (onto c.args.out.now.items _ _ _ _ (first c.args.out.now.items _ _ _ c.in_ok-push_field.ensures) c.in_ok-push_text.ensures)
    (rw c.as_bytes.ensures.value at c.in_ok-push_escaped.ensures))
    c.in_ok-push_field-2.ensures)
    c.in_ok-push_text-2.ensures)
    c.in_ok-push_signed.ensures)
    c.in_ok-push_text-3.ensures)
    c.push_signed-2.ensures
