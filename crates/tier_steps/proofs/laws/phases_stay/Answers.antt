use Rattle.tier_steps.proofs.Ready.{phases_stay}
use Rattle.tier_steps.proofs.laws.phases_stay.Goals as goal

pub returns : goal.returns
returns c = phases_stay
