use Rattle.job_view.proofs.Working.{panels_are_worked_out}
use Rattle.job_view.proofs.picture_laws.panels_are_worked_out.Goals as goal

pub returns : goal.returns
returns c = panels_are_worked_out
