use Rattle.tier_shape.proofs.Childless.{trees_have_a_leaf}
use Rattle.tier_shape.proofs.trees_have_a_leaf.Goals as goal

pub returns : goal.returns
returns c = trees_have_a_leaf
