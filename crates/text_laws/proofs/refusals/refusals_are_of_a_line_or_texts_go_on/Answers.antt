use Rattle.text_laws.proofs.Above.{of-a-line-or-go-on}
use Rattle.text_laws.proofs.refusals.refusals_are_of_a_line_or_texts_go_on.Goals as goal

pub returns : goal.returns
returns c = of-a-line-or-go-on
