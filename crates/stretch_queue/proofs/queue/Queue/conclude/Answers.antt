use Rattle.stretch_queue.proofs.HandedOut.{if_ok}
use Rattle.stretch_queue.proofs.queue.Queue.conclude.Goals as goal

pub returns-clause-left : goal.returns-clause-left
returns-clause-left g c =
    if_ok c.left_by.result _ _ c.left_by.ensures.left
    (λ l h. record { last = c.self.inside.stretches; stopped = c.self.inside.stopped; of_mark = c.self.invariant.of_mark; keeps = c.self.invariant.keeps c.in-None.is; leaves = h })
