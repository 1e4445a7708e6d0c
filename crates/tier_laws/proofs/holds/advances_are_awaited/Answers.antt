use Rattle.tier_laws.proofs.Waiting.{advances_are_awaited}
use Rattle.tier_laws.proofs.holds.advances_are_awaited.Goals as goal

pub returns : goal.returns
returns c = advances_are_awaited
