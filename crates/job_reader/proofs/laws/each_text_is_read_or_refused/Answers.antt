use Rattle.job_reader.proofs.SpelledWhole.{each-text}
use Rattle.job_reader.proofs.laws.each_text_is_read_or_refused.Goals as goal

pub returns : goal.returns
returns c = each-text
