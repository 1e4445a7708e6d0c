use Rattle.job_laws.proofs.Accounted.{deliveries}
use Rattle.job_laws.proofs.deliveries_name_their_spawns.Goals as goal

pub returns : goal.returns
returns c = deliveries
