use Rattle.tier_steps.proofs.Start.{new_tokens_are_unseen}
use Rattle.tier_steps.proofs.laws.new_tokens_are_unseen.Goals as goal

pub returns : goal.returns
returns c = new_tokens_are_unseen
