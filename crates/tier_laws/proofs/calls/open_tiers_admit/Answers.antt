use Rattle.tier_laws.proofs.Members.{open_tiers_admit}
use Rattle.tier_laws.proofs.calls.open_tiers_admit.Goals as goal

pub returns : goal.returns
returns c = open_tiers_admit
