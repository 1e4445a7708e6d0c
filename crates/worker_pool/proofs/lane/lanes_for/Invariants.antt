use Rattle.std.proofs.Common.{◌≡◌, ◌≤◌, vec_len}
use Rattle.worker_pool.proofs.lane.lanes_for.Given as goal

abbrev pub invariant-loop : goal.invariant-loop
invariant-loop g l = (l.counter ≤ l.workers) × (vec_len l.lanes ≡ l.counter)
