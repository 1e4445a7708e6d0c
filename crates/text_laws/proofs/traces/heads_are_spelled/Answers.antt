use Rattle.text_laws.proofs.TraceHeads.{heads-spelled}
use Rattle.text_laws.proofs.traces.heads_are_spelled.Goals as goal

pub returns : goal.returns
returns c = heads-spelled
