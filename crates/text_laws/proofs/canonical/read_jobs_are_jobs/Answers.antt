use Rattle.text_laws.proofs.ReadJobs.{read-jobs}
use Rattle.text_laws.proofs.canonical.read_jobs_are_jobs.Goals as goal

pub returns : goal.returns
returns c = read-jobs
