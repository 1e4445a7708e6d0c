use Rattle.text_laws.proofs.Held.{lines-above}
use Rattle.text_laws.proofs.refusals.lines_above_are_read.Goals as goal

pub returns : goal.returns
returns c = lines-above
