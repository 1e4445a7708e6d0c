use Rattle.refusal_reasons.proofs.Short.{reasons-are-short}
use Rattle.refusal_reasons.proofs.laws.reasons_are_short.Goals as goal

pub returns : goal.returns
returns c = reasons-are-short
