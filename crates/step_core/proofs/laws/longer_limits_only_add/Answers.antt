use Rattle.step_core.proofs.LawProofs.{longer-limits-only-add}
use Rattle.step_core.proofs.laws.longer_limits_only_add.Goals as goal

pub returns : goal.returns
returns c = longer-limits-only-add
