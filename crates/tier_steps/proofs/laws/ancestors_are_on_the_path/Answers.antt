use Rattle.tier_steps.proofs.Path.{ancestors_are_on_the_path}
use Rattle.tier_steps.proofs.laws.ancestors_are_on_the_path.Goals as goal

pub returns : goal.returns
returns c = ancestors_are_on_the_path
