use Rattle.bsp_words.proofs.Numbers.{others-refused}
use Rattle.bsp_words.proofs.laws.other_numbers_are_refused.Goals as goal

pub returns : goal.returns
returns c = others-refused
