use Rattle.fault_reasons.proofs.WorkedOut.{reasons-are-worked-out}
use Rattle.fault_reasons.proofs.laws.reasons_are_worked_out.Goals as goal

pub returns : goal.returns
returns c = reasons-are-worked-out
