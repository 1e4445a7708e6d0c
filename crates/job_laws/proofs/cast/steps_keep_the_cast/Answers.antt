use Rattle.job_laws.proofs.Steps.{steps_keep_the_cast}
use Rattle.job_laws.proofs.cast.steps_keep_the_cast.Goals as goal

pub returns : goal.returns
returns c = steps_keep_the_cast
