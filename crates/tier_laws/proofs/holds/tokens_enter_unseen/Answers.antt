use Rattle.tier_laws.proofs.Entering.{tokens_enter_unseen}
use Rattle.tier_laws.proofs.holds.tokens_enter_unseen.Goals as goal

pub returns : goal.returns
returns c = tokens_enter_unseen
