use Rattle.tier_shape.proofs.TreeShape.{tree_levels}
use Rattle.tier_shape.proofs.trees_have_their_levels.Goals as goal

pub returns : goal.returns
returns c = tree_levels
