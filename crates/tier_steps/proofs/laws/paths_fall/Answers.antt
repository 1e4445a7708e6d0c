use Rattle.tier_steps.proofs.Path.{paths_fall}
use Rattle.tier_steps.proofs.laws.paths_fall.Goals as goal

pub returns : goal.returns
returns c = paths_fall
