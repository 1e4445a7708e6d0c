use Rattle.bsp_words.proofs.Parsed.{words-version}
use Rattle.bsp_words.proofs.laws.words_tell_the_version.Goals as goal

pub returns : goal.returns
returns c = words-version
