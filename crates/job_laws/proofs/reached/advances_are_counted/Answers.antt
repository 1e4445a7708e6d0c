use Rattle.job_laws.proofs.Claiming.{advances_are_counted}
use Rattle.job_laws.proofs.reached.advances_are_counted.Goals as goal

pub returns : goal.returns
returns c = advances_are_counted
