use Rattle.tier_steps.proofs.Start.{start_tallies}
use Rattle.tier_steps.proofs.laws.start_tallies.Goals as goal

pub returns : goal.returns
returns c = start_tallies
