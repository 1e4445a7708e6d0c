use Rattle.text_lines.proofs.NumbersLemmas.{numbers_law}
use Rattle.text_lines.proofs.numbers_are_read.Goals as goal

pub returns : goal.returns
returns c = numbers_law
