use Rattle.job_view.proofs.Behind.{first, last, onto}
use Rattle.job_view.proofs.panels.push_missing.Goals as goal

pub returns : goal.returns
returns c =
    last c.args.out.now.items _ _ _ _ c.push_text-2.result
    (onto c.args.out.now.items _ _ _ _
    (onto c.args.out.now.items _ _ _ _
    (first c.args.out.now.items _ _ _ c.in_ok-push_field.ensures)
    c.in_ok-push_text.ensures)
    (rw c.as_bytes.ensures.value at c.in_ok-push_escaped.ensures))
    c.push_text-2.ensures
