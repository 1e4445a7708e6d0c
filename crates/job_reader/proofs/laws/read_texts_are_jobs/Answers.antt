use Rattle.job_reader.proofs.SpelledWhole.{text-spelled-out}
use Rattle.job_reader.proofs.laws.read_texts_are_jobs.Goals as goal

pub returns : goal.returns
returns c = text-spelled-out
