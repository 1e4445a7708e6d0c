use Rattle.tier_laws.proofs.Refreshing.{refreshes_are_next}
use Rattle.tier_laws.proofs.calls.refreshes_are_next.Goals as goal

pub returns : goal.returns
returns c = refreshes_are_next
