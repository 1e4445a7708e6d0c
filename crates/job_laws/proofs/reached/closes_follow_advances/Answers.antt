use Rattle.job_laws.proofs.Following.{closes_follow_advances}
use Rattle.job_laws.proofs.reached.closes_follow_advances.Goals as goal

pub returns : goal.returns
returns c = closes_follow_advances
