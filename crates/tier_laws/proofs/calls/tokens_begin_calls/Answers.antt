use Rattle.tier_laws.proofs.Ended.{tokens_begin_calls}
use Rattle.tier_laws.proofs.calls.tokens_begin_calls.Goals as goal

pub returns : goal.returns
returns c = tokens_begin_calls
