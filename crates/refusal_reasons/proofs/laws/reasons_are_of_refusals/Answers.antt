use Rattle.refusal_reasons.proofs.Reasoned.{reasons-are-of-refusals}
use Rattle.refusal_reasons.proofs.laws.reasons_are_of_refusals.Goals as goal

pub returns : goal.returns
returns c = reasons-are-of-refusals
