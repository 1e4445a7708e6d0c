use Rattle.tier_laws.proofs.Once.{calls_count_once}
use Rattle.tier_laws.proofs.answers.calls_count_once.Goals as goal

pub returns : goal.returns
returns c = calls_count_once
