use Rattle.job_schedule.proofs.Standing.{participants_are_the_live_tasks}
use Rattle.job_schedule.proofs.laws.participants_are_the_live_tasks.Goals as goal

pub returns : goal.returns
returns c = participants_are_the_live_tasks
