use Rattle.task_lang.proofs.AllSegments.{faults-without-effect}
use Rattle.task_lang.proofs.laws.faults_without_effect.Goals as goal

pub returns : goal.returns
returns c = faults-without-effect
