use Rattle.tier_laws.proofs.Waiting.{the_root_waits}
use Rattle.tier_laws.proofs.holds.the_root_waits.Goals as goal

pub returns : goal.returns
returns c = the_root_waits
