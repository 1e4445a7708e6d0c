-- How a job ends, without where a path lies in memory.
use Rattle.phase_records.specs.declared.record.JobStatus.{JobStatus}
use Rattle.phase_records.specs.declared.record.JobStatus.TheVariants as status
use Rattle.phase_records.specs.Status.{Status, Ended, Fault, Limit}

abbrev pub status_seen : JobStatus → Status
status_seen (status.Ended steps) = Ended steps
status_seen (status.Fault code step path) = Fault code step path.items
status_seen (status.Limit steps) = Limit steps
