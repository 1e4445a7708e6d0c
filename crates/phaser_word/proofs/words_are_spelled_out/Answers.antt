use Rattle.phaser_word.proofs.SpelledOut.{spelled_out}
use Rattle.phaser_word.proofs.words_are_spelled_out.Goals as goal

pub returns : goal.returns
returns c = spelled_out
