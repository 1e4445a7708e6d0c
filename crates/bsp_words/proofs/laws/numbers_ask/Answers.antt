use Rattle.bsp_words.proofs.Numbers.{numbers-ask}
use Rattle.bsp_words.proofs.laws.numbers_ask.Goals as goal

pub returns : goal.returns
returns c = numbers-ask
