use Rattle.tier_laws.proofs.Planning.{advances_are_planned}
use Rattle.tier_laws.proofs.holds.advances_are_planned.Goals as goal

pub returns : goal.returns
returns c = advances_are_planned
