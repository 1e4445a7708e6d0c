use Rattle.trace_text.proofs.AskedLines.{lines_law}
use Rattle.trace_text.proofs.laws.lines_say_what_is_asked.Goals as goal

pub returns : goal.returns
returns c = lines_law
