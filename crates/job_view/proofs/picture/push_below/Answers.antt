use Rattle.job_view.proofs.Behind.{last, onto}
use Rattle.job_view.proofs.picture.push_below.Goals as goal

pub returns : goal.returns
returns c =
    last c.args.out.now.items _ _ _ _ c.push_text-2.result
    (onto c.args.out.now.items _ _ _ _
    (onto c.args.out.now.items _ _ _ _
    (onto c.args.out.now.items _ _ _ _ (onto c.args.out.now.items _ _ _ _ c.in_ok-push_part.ensures c.in_ok-push_all_ticks.ensures) c.in_ok-push_text.ensures)
    c.in_ok-push_part-2.ensures)
    c.in_ok-push_step_ticks.ensures)
    c.push_text-2.ensures
