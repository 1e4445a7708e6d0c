use Rattle.tier_laws.proofs.Framing.{others_stay}
use Rattle.tier_laws.proofs.holds.others_stay.Goals as goal

pub returns : goal.returns
returns c = others_stay
