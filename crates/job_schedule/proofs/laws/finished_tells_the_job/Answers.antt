use Rattle.job_schedule.proofs.Jobs.{finished_tells_the_job}
use Rattle.job_schedule.proofs.laws.finished_tells_the_job.Goals as goal

pub returns : goal.returns
returns c = finished_tells_the_job
