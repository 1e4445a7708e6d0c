use Rattle.tier_shape.proofs.LastLevel.{last_level}
use Rattle.tier_shape.proofs.leaves_are_the_last_level.Goals as goal

pub returns : goal.returns
returns c = last_level
