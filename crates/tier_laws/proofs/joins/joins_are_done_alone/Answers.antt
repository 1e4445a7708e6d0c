use Rattle.tier_laws.proofs.Opens.{joins_are_done_alone}
use Rattle.tier_laws.proofs.joins.joins_are_done_alone.Goals as goal

pub returns : goal.returns
returns c = joins_are_done_alone
