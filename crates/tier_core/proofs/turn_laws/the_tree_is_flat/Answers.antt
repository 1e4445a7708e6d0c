use Rattle.tier_core.proofs.Runs.{the_tree_is_flat}
use Rattle.tier_core.proofs.turn_laws.the_tree_is_flat.Goals as goal

pub returns : goal.returns
returns c = the_tree_is_flat
