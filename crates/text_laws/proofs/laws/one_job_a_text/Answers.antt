use Rattle.text_laws.proofs.Whole.{one-job}
use Rattle.text_laws.proofs.laws.one_job_a_text.Goals as goal

pub returns : goal.returns
returns c = one-job
