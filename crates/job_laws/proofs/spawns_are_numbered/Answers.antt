use Rattle.job_laws.proofs.Spawning.{numbered}
use Rattle.job_laws.proofs.spawns_are_numbered.Goals as goal

pub returns : goal.returns
returns c = numbered
