use Rattle.tier_steps.proofs.FlatLaw.{kinds_are_flat}
use Rattle.tier_steps.proofs.laws.kinds_are_flat.Goals as goal

pub returns : goal.returns
returns c = kinds_are_flat
