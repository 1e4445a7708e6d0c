use Rattle.job_reader.proofs.ReadJobs.{job-back}
use Rattle.job_reader.proofs.so_far.SoFar.job.Goals as goal

pub returns : goal.returns
returns c = λ j s. job-back j c.args.self c.in-Some.job s c.in-Some.ensures.made
