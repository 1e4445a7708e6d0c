use Rattle.tier_shape.proofs.Childless.{leaves_right}
use Rattle.tier_shape.proofs.leaves_are_childless.Goals as goal

pub returns : goal.returns
returns c = leaves_right
