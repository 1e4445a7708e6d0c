use Rattle.job_laws.proofs.Worked.{schedules_are_worked_out}
use Rattle.job_laws.proofs.driven.schedules_are_worked_out.Goals as goal

pub returns : goal.returns
returns c = schedules_are_worked_out
