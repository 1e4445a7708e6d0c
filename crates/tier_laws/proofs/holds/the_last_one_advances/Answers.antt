use Rattle.tier_laws.proofs.Planning.{the_last_one_advances}
use Rattle.tier_laws.proofs.holds.the_last_one_advances.Goals as goal

pub returns : goal.returns
returns c = the_last_one_advances
