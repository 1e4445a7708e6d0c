-- A job apart from its place in memory.
use Rattle.task_code.specs.declared.job.Job.TheInside.{Inside}
use Rattle.task_code.specs.JobValue.{JobValue, job_value}
use Rattle.task_code.specs.Rules.{IsJob}

abbrev pub job_of : Inside → JobValue
job_of j = job_value j.format j.arrays j.bodies j.starts

abbrev pub IsJobInside : Inside → Type 0
IsJobInside j = IsJob (job_of j)
