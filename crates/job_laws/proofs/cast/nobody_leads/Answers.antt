use Rattle.job_laws.proofs.Playing.{nobody_leads}
use Rattle.job_laws.proofs.cast.nobody_leads.Goals as goal

pub returns : goal.returns
returns c = nobody_leads
