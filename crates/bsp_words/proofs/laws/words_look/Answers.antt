use Rattle.bsp_words.proofs.Parsed.{words-look}
use Rattle.bsp_words.proofs.laws.words_look.Goals as goal

pub returns : goal.returns
returns c = words-look
