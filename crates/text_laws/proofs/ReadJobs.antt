-- What a text is read as is a job.
use Rattle.job_reader.proofs.ReadJobs as reader
use Rattle.text_laws.specs.Canonical.{ReadJobsAreJobs}

pub read-jobs : ReadJobsAreJobs
read-jobs = reader.read-jobs
