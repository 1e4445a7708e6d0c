use Rattle.job_laws.proofs.Refused.{deliveries}
use Rattle.job_laws.proofs.deliveries_are_refused_in_order.Goals as goal

pub returns : goal.returns
returns c = deliveries
