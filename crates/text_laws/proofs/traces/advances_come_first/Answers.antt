use Rattle.text_laws.proofs.Advances.{advances-first}
use Rattle.text_laws.proofs.traces.advances_come_first.Goals as goal

pub returns : goal.returns
returns c = advances-first
