use Rattle.job_laws.proofs.Claiming.{worlds_are_kept}
use Rattle.job_laws.proofs.reached.worlds_are_kept.Goals as goal

pub returns : goal.returns
returns c = worlds_are_kept
