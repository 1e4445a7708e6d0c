use Rattle.bsp_words.proofs.Parsed.{words-refused}
use Rattle.bsp_words.proofs.laws.words_are_refused.Goals as goal

pub returns : goal.returns
returns c = words-refused
