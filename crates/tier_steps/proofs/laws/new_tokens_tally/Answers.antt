use Rattle.tier_steps.proofs.Start.{new_tokens_tally}
use Rattle.tier_steps.proofs.laws.new_tokens_tally.Goals as goal

pub returns : goal.returns
returns c = new_tokens_tally
