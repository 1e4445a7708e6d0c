use Rattle.text_lines.proofs.Readings.{line_words}
use Rattle.text_lines.proofs.words_of_a_line.Goals as goal

pub returns : goal.returns
returns c = line_words
