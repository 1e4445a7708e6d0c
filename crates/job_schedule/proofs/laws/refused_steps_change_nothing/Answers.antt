use Rattle.job_schedule.proofs.Refused.{refused_steps_change_nothing}
use Rattle.job_schedule.proofs.laws.refused_steps_change_nothing.Goals as goal

pub returns : goal.returns
returns c = refused_steps_change_nothing
