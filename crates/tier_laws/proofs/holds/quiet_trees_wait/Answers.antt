use Rattle.tier_laws.proofs.Planning.{quiet_trees_wait}
use Rattle.tier_laws.proofs.holds.quiet_trees_wait.Goals as goal

pub returns : goal.returns
returns c = quiet_trees_wait
