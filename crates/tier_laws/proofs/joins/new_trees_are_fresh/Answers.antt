use Rattle.tier_laws.proofs.Opens.{new_trees_are_fresh}
use Rattle.tier_laws.proofs.joins.new_trees_are_fresh.Goals as goal

pub returns : goal.returns
returns c = new_trees_are_fresh
