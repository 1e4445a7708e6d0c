use Rattle.step_core.proofs.Rounds.{orders-are-own}
use Rattle.step_core.proofs.laws.orders_are_own.Goals as goal

pub returns : goal.returns
returns c = orders-are-own
