use Rattle.job_view.proofs.Escapes.{names_are_text}
use Rattle.job_view.proofs.picture_laws.names_are_text.Goals as goal

pub returns : goal.returns
returns c = names_are_text
