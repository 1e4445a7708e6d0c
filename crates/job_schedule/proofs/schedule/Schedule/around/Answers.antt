use Rattle.job_schedule.proofs.Initial.{empty_opens}
use Rattle.job_schedule.proofs.schedule.Schedule.around.Goals as goal

pub returns-clause-world : goal.returns-clause-world
returns-clause-world c = λ job is.
    empty_opens c.args.round job c.args.limit c.args.shape c.in_ok-core.core c.in_ok-core.leaves.items c.in_ok-hands.hands.items _ _ is
    c.in_ok-core.ensures.tree c.in_ok-core.ensures.leaves c.in_ok-hands.ensures c.new.ensures.items c.new-2.ensures.items
