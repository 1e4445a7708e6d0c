use Rattle.job_view.proofs.Working.{pictures_are_worked_out}
use Rattle.job_view.proofs.picture_laws.pictures_are_worked_out.Goals as goal

pub returns : goal.returns
returns c = pictures_are_worked_out
