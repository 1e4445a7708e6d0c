use Rattle.job_view.proofs.JsonWorking.{reports-are-worked-out}
use Rattle.job_view.proofs.laws.reports_are_worked_out.Goals as goal

pub returns : goal.returns
returns c = reports-are-worked-out
