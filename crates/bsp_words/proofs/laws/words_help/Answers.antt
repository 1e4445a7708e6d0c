use Rattle.bsp_words.proofs.Parsed.{words-help}
use Rattle.bsp_words.proofs.laws.words_help.Goals as goal

pub returns : goal.returns
returns c = words-help
