use Rattle.stretch_queue.proofs.Queueing.{begun}
use Rattle.stretch_queue.proofs.queue.Queue.new.Goals as goal

pub invariant_of-result : goal.invariant_of-result
invariant_of-result g c =
    begun c.args.lists c.args.stretches c.args.stopped _ _ c.requires.mark (c.begin_ready-members.ensures g.J.Running.workers)
    c.requires.lists.0 c.requires.lists.1 c.requires.next c.requires.kept c.requires.stopped
