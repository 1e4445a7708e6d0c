use Rattle.text_laws.proofs.Joined.{each-text}
use Rattle.text_laws.proofs.laws.each_text_is_one_jobs_or_refused.Goals as goal

pub returns : goal.returns
returns c = each-text
