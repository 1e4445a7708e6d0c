use Rattle.text_laws.proofs.Whole.{text-of-job-read}
use Rattle.text_laws.proofs.laws.texts_of_jobs_are_read.Goals as goal

pub returns : goal.returns
returns c = text-of-job-read
