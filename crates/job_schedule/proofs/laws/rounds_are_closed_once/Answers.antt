use Rattle.job_schedule.proofs.Closing.{rounds_are_closed_once}
use Rattle.job_schedule.proofs.laws.rounds_are_closed_once.Goals as goal

pub returns : goal.returns
returns c = rounds_are_closed_once
