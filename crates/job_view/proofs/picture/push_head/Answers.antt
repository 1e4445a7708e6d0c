use Rattle.job_view.proofs.Behind.{first, last, onto}
use Rattle.job_view.proofs.picture.push_head.Goals as goal

pub returns : goal.returns
returns c =
    last c.args.out.now.items _ _ _ _ c.push_text-3.result
    (onto c.args.out.now.items _ _ _ _ (onto c.args.out.now.items _ _ _ _ (first c.args.out.now.items _ _ _ c.in_ok-push_field.ensures) c.in_ok-push_text.ensures) c.in_ok-push_text-2.ensures)
    c.push_text-3.ensures
