use Rattle.text_lines.proofs.Readings.{spaced_words}
use Rattle.text_lines.proofs.spaced_words_are_read.Goals as goal

pub returns : goal.returns
returns c = spaced_words
