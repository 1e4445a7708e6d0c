use Rattle.text_lines.proofs.Readings.{joined_lines}
use Rattle.text_lines.proofs.joined_lines_are_read.Goals as goal

pub returns : goal.returns
returns c = joined_lines
