use Rattle.tier_laws.proofs.Holding.{parties_are_few}
use Rattle.tier_laws.proofs.holds.parties_are_few.Goals as goal

pub returns : goal.returns
returns c = parties_are_few
