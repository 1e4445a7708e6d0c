use Rattle.tier_shape.proofs.TreeShape.{says_shape}
use Rattle.tier_shape.proofs.texts_say_shapes.Goals as goal

pub returns : goal.returns
returns c = says_shape
