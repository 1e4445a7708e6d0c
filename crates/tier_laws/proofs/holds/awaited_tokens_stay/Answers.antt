use Rattle.tier_laws.proofs.Rounding.{awaited_tokens_stay}
use Rattle.tier_laws.proofs.holds.awaited_tokens_stay.Goals as goal

pub returns : goal.returns
returns c = awaited_tokens_stay
