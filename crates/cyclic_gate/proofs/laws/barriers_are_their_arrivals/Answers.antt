use Rattle.cyclic_gate.proofs.Forgetting.{barriers_are_their_arrivals}
use Rattle.cyclic_gate.proofs.laws.barriers_are_their_arrivals.Goals as goal

pub returns : goal.returns
returns c = barriers_are_their_arrivals
