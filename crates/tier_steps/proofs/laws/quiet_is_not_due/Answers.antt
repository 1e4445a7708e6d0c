use Rattle.tier_steps.proofs.Ready.{quiet_is_not_due}
use Rattle.tier_steps.proofs.laws.quiet_is_not_due.Goals as goal

pub returns : goal.returns
returns c = quiet_is_not_due
