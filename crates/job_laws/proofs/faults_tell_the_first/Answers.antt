use Rattle.job_laws.proofs.FirstFaults.{faults_tell}
use Rattle.job_laws.proofs.faults_tell_the_first.Goals as goal

pub returns : goal.returns
returns c = faults_tell
