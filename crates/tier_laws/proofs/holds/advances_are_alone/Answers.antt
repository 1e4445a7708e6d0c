use Rattle.tier_laws.proofs.Holding.{advances_are_alone}
use Rattle.tier_laws.proofs.holds.advances_are_alone.Goals as goal

pub returns : goal.returns
returns c = advances_are_alone
