use Rattle.tier_laws.proofs.Opens.{awaited_tiers_wait}
use Rattle.tier_laws.proofs.joins.awaited_tiers_wait.Goals as goal

pub returns : goal.returns
returns c = awaited_tiers_wait
