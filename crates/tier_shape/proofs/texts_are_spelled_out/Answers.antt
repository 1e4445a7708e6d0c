use Rattle.tier_shape.proofs.Telling.{in_text_right}
use Rattle.tier_shape.proofs.texts_are_spelled_out.Goals as goal

pub returns : goal.returns
returns c = in_text_right
