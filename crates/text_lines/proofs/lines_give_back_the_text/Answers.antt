use Rattle.text_lines.proofs.Readings.{lines_back}
use Rattle.text_lines.proofs.lines_give_back_the_text.Goals as goal

pub returns : goal.returns
returns c = lines_back
