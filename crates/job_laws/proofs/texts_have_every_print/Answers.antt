use Rattle.job_laws.proofs.Reported.{every_print}
use Rattle.job_laws.proofs.texts_have_every_print.Goals as goal

pub returns : goal.returns
returns c = every_print
