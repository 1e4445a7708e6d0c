use Rattle.job_laws.proofs.Refused.{landings}
use Rattle.job_laws.proofs.landings_are_refused_in_order.Goals as goal

pub returns : goal.returns
returns c = landings
