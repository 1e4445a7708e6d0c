use Rattle.trace_text.proofs.FoundNumbers.{number-faults-are-found}
use Rattle.trace_text.proofs.laws.number_faults_are_found.Goals as goal

pub returns : goal.returns
returns c = number-faults-are-found
