use Rattle.job_laws.proofs.Reported.{prints_of_each}
use Rattle.job_laws.proofs.prints_are_of_their_superstep.Goals as goal

pub returns : goal.returns
returns c = prints_of_each
