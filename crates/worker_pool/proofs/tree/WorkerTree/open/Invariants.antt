use Rattle.std.proofs.Common.{◌≡◌}
use Rattle.worker_pool.proofs.tree.WorkerTree.open.Given as goal

abbrev pub invariant-loop : goal.invariant-loop
invariant-loop g l =
    (goal.iterator-loop g).can_next l.iterator' × (goal.iterator-loop g).is_finite l.iterator' × (l.opening.token.tree ≡ g.J.Running.tree)
