use Rattle.trace_text.proofs.OwnFaults.{own_faults}
use Rattle.trace_text.proofs.laws.faults_of_lines_come_first.Goals as goal

pub returns : goal.returns
returns c = own_faults
