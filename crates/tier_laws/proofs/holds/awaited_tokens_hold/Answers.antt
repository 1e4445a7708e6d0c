use Rattle.tier_laws.proofs.Holding.{awaited_tokens_hold}
use Rattle.tier_laws.proofs.holds.awaited_tokens_hold.Goals as goal

pub returns : goal.returns
returns c = awaited_tokens_hold
