use Rattle.job_laws.proofs.Casting.{new_tokens_are_out}
use Rattle.job_laws.proofs.cast.new_tokens_are_out.Goals as goal

pub returns : goal.returns
returns c = new_tokens_are_out
