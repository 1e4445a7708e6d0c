use Rattle.job_view.proofs.WorkedLooks.{looks-are-worked-out}
use Rattle.job_view.proofs.laws.looks_are_worked_out.Goals as goal

pub returns : goal.returns
returns c = looks-are-worked-out
