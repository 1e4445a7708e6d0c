use Rattle.job_laws.proofs.Reported.{by_superstep}
use Rattle.job_laws.proofs.reports_are_by_superstep.Goals as goal

pub returns : goal.returns
returns c = by_superstep
