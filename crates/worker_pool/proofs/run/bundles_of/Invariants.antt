use Rattle.std.proofs.Common.{length}
use Rattle.worker_pool.specs.Begun.{AreOf}
use Rattle.worker_pool.proofs.run.bundles_of.Given as goal

abbrev pub invariant-loop-group : goal.invariant-loop-group
invariant-loop-group g l = AreOf g.J.Running.tree l.groups.items

abbrev pub decreases-loop-group : goal.decreases-loop-group
decreases-loop-group g l = length l.groups.items
