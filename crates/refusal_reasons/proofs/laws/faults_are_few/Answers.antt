use Rattle.refusal_reasons.proofs.Listed.{faults-are-few}
use Rattle.refusal_reasons.proofs.laws.faults_are_few.Goals as goal

pub returns : goal.returns
returns c = faults-are-few
