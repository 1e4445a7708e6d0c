use Rattle.tier_steps.proofs.Known.{tally_is_known}
use Rattle.tier_steps.proofs.laws.tally_is_known.Goals as goal

pub returns : goal.returns
returns c = tally_is_known
