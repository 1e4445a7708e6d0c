use Rattle.job_view.proofs.Behind.{onto, last}
use Rattle.job_view.proofs.axes.push_step_quarters.Goals as goal

pub returns : goal.returns
returns c =
    last c.args.out.now.items _ _ _ _ c.push_step_tick-5.result
    (onto c.args.out.now.items _ _ _ _
    (onto c.args.out.now.items _ _ _ _ (onto c.args.out.now.items _ _ _ _ c.in_ok-push_step_tick.ensures c.in_ok-push_step_tick-2.ensures) c.in_ok-push_step_tick-3.ensures)
    c.in_ok-push_step_tick-4.ensures)
    c.push_step_tick-5.ensures
