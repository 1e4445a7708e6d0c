use Rattle.job_laws.proofs.Claiming.{closing_misses_nothing}
use Rattle.job_laws.proofs.reached.closing_misses_nothing.Goals as goal

pub returns : goal.returns
returns c = closing_misses_nothing
