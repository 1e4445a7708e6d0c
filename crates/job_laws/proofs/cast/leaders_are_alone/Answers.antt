use Rattle.job_laws.proofs.Playing.{leaders_are_alone}
use Rattle.job_laws.proofs.cast.leaders_are_alone.Goals as goal

pub returns : goal.returns
returns c = leaders_are_alone
