use Rattle.std.proofs.Common.{◌≡◌, ◌≤◌, vec_len}
use Rattle.worker_pool.proofs.start.fn.start_all.scope.Given as goal

abbrev pub invariant-loop-k : goal.invariant-loop-k
invariant-loop-k g l = (l.k ≤ l.workers) × (vec_len l.started ≡ l.k)
