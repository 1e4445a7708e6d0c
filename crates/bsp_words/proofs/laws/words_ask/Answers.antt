use Rattle.bsp_words.proofs.Parsed.{words-ask}
use Rattle.bsp_words.proofs.laws.words_ask.Goals as goal

pub returns : goal.returns
returns c = words-ask
