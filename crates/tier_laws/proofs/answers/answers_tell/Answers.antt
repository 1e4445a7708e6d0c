use Rattle.tier_laws.proofs.Telling.{answers_tell}
use Rattle.tier_laws.proofs.answers.answers_tell.Goals as goal

pub returns : goal.returns
returns c = answers_tell
