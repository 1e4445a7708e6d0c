use Rattle.std.proofs.Common.{◌<◌, IfSome, length}
use Rattle.worker_pool.proofs.lane.fullest.Given as goal

abbrev pub invariant-loop-k : goal.invariant-loop-k
invariant-loop-k g l = IfSome l.place (λ place. place < length l.lanes)
