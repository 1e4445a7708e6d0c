use Rattle.tier_laws.proofs.Planning.{quiet_trees_await_somebody}
use Rattle.tier_laws.proofs.holds.quiet_trees_await_somebody.Goals as goal

pub returns : goal.returns
returns c = quiet_trees_await_somebody
