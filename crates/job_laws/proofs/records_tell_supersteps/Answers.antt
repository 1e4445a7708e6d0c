use Rattle.job_laws.proofs.Reported.{records_tell}
use Rattle.job_laws.proofs.records_tell_supersteps.Goals as goal

pub returns : goal.returns
returns c = records_tell
