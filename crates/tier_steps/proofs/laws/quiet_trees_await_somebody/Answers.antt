use Rattle.tier_steps.proofs.Awaits.{quiet_trees_await_somebody}
use Rattle.tier_steps.proofs.laws.quiet_trees_await_somebody.Goals as goal

pub returns : goal.returns
returns c = quiet_trees_await_somebody
