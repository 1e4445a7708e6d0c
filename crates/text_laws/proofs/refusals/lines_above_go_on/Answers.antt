use Rattle.text_laws.proofs.Above.{lines-above-go-on}
use Rattle.text_laws.proofs.refusals.lines_above_go_on.Goals as goal

pub returns : goal.returns
returns c = lines-above-go-on
