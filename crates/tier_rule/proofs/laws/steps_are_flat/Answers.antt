use Rattle.tier_rule.proofs.Groups.{steps_are_flat}
use Rattle.tier_rule.proofs.laws.steps_are_flat.Goals as goal

pub returns : goal.returns
returns c = steps_are_flat
