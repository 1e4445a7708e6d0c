use Rattle.std.proofs.Common.{length}
use Rattle.worker_pool.proofs.tree.WorkerTree.arrive_by_leaf.Given as goal

abbrev pub invariant-loop-one : goal.invariant-loop-one
invariant-loop-one g l = Unit {0}

abbrev pub decreases-loop-one : goal.decreases-loop-one
decreases-loop-one g l = length l.planned.items
