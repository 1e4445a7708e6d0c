use Rattle.tier_laws.proofs.Once.{refusals_are_noted}
use Rattle.tier_laws.proofs.answers.refusals_are_noted.Goals as goal

pub returns : goal.returns
returns c = refusals_are_noted
