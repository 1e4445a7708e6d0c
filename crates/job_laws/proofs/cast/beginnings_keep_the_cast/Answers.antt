use Rattle.job_laws.proofs.Casting.{beginnings_keep_the_cast}
use Rattle.job_laws.proofs.cast.beginnings_keep_the_cast.Goals as goal

pub returns : goal.returns
returns c = beginnings_keep_the_cast
