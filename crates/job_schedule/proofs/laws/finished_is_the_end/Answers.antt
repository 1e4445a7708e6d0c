use Rattle.job_schedule.proofs.Ending.{finished_is_the_end}
use Rattle.job_schedule.proofs.laws.finished_is_the_end.Goals as goal

pub returns : goal.returns
returns c = finished_is_the_end
