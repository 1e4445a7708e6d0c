use Rattle.tier_steps.proofs.SpelledOut.{tally_is_spelled_out}
use Rattle.tier_steps.proofs.laws.tally_is_spelled_out.Goals as goal

pub returns : goal.returns
returns c = tally_is_spelled_out
