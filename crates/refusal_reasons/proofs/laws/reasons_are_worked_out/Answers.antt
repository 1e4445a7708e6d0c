use Rattle.refusal_reasons.proofs.Reasoned.{reasons-are-worked-out}
use Rattle.refusal_reasons.proofs.laws.reasons_are_worked_out.Goals as goal

pub returns : goal.returns
returns c = reasons-are-worked-out
