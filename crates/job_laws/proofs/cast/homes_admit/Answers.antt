use Rattle.job_laws.proofs.Admitting.{homes_admit}
use Rattle.job_laws.proofs.cast.homes_admit.Goals as goal

pub returns : goal.returns
returns c = homes_admit
