use Rattle.tier_steps.proofs.KindLaw.{kinds_keep_tally}
use Rattle.tier_steps.proofs.laws.kinds_keep_tally.Goals as goal

pub returns : goal.returns
returns c = kinds_keep_tally
