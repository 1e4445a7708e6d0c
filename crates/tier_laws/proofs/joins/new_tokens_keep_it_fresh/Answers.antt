use Rattle.tier_laws.proofs.Opens.{new_tokens_keep_it_fresh}
use Rattle.tier_laws.proofs.joins.new_tokens_keep_it_fresh.Goals as goal

pub returns : goal.returns
returns c = new_tokens_keep_it_fresh
