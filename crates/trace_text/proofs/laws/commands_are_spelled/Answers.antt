use Rattle.trace_text.proofs.SpelledCommands.{spelled_law}
use Rattle.trace_text.proofs.laws.commands_are_spelled.Goals as goal

pub returns : goal.returns
returns c = spelled_law
