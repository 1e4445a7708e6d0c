use Rattle.phaser_one.proofs.WordProofs.{alike_words}
use Rattle.phaser_one.proofs.laws.alike_words_are_one.Goals as goal

pub returns : goal.returns
returns c = alike_words
