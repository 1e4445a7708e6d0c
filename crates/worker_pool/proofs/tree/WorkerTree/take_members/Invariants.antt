use Rattle.worker_pool.proofs.tree.WorkerTree.take_members.Given as goal

abbrev pub invariant-loop-need : goal.invariant-loop-need
invariant-loop-need g l = Unit {0}

abbrev pub decreases-loop-need : goal.decreases-loop-need
decreases-loop-need g l = l.need
