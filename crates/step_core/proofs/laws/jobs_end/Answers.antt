use Rattle.step_core.proofs.LawProofs.{jobs-end}
use Rattle.step_core.proofs.laws.jobs_end.Goals as goal

pub returns : goal.returns
returns c = jobs-end
