use Rattle.std.proofs.Common.{◌<◌, ◌⊎◌, IsSome, length, vec_len}
use Rattle.worker_pool.proofs.start.join_all.Given as goal

abbrev pub invariant-loop-thread : goal.invariant-loop-thread
invariant-loop-thread g l = IsSome l.stopped ⊎ (0 < vec_len l.started)

abbrev pub decreases-loop-thread : goal.decreases-loop-thread
decreases-loop-thread g l = length l.started.items
