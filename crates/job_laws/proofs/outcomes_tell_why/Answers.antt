use Rattle.job_laws.proofs.Accounted.{outcomes}
use Rattle.job_laws.proofs.outcomes_tell_why.Goals as goal

pub returns : goal.returns
returns c = outcomes
