use Rattle.step_core.proofs.Rounds.{missing-tells}
use Rattle.step_core.proofs.laws.missing_tells.Goals as goal

pub returns : goal.returns
returns c = missing-tells
