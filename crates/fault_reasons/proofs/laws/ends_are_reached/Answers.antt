use Rattle.fault_reasons.proofs.Reached.{ends_reached}
use Rattle.fault_reasons.proofs.laws.ends_are_reached.Goals as goal

pub returns : goal.returns
returns c = ends_reached
