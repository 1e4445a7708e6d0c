use Rattle.tier_steps.proofs.Ready.{advances_are_due}
use Rattle.tier_steps.proofs.laws.advances_are_due.Goals as goal

pub returns : goal.returns
returns c = advances_are_due
