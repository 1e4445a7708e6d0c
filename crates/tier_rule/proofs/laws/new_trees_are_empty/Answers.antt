use Rattle.tier_rule.proofs.Standing.{new_trees_are_empty}
use Rattle.tier_rule.proofs.laws.new_trees_are_empty.Goals as goal

pub returns : goal.returns
returns c = new_trees_are_empty
