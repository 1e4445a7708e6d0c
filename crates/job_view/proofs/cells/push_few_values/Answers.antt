use Rattle.job_view.proofs.Behind.{first, last, onto}
use Rattle.job_view.proofs.cells.push_few_values.Goals as goal

pub returns : goal.returns
returns c =
    last c.args.out.now.items _ _ _ _ c.push_text-2.result
    (onto c.args.out.now.items _ _ _ _
    (onto c.args.out.now.items _ _ _ _ (first c.args.out.now.items _ _ _ (rw (c.min.ensures, c.max.ensures, c.longest.ensures.longest) at c.in_ok-push_field.ensures)) c.in_ok-push_text.ensures)
    c.in_ok-push_values.ensures)
    c.push_text-2.ensures
