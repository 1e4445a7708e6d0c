use Rattle.bsp_words.proofs.Numbers.{limits-ask}
use Rattle.bsp_words.proofs.laws.limits_ask.Goals as goal

pub returns : goal.returns
returns c = limits-ask
