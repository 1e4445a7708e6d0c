use Rattle.tier_shape.proofs.Joined.{one_reading}
use Rattle.tier_shape.proofs.texts_say_one_tree.Goals as goal

pub returns : goal.returns
returns c = one_reading
