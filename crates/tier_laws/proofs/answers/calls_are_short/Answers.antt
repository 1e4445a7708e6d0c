use Rattle.tier_laws.proofs.Short.{calls_are_short}
use Rattle.tier_laws.proofs.answers.calls_are_short.Goals as goal

pub returns : goal.returns
returns c = calls_are_short
