use Rattle.tier_laws.proofs.Driven.{new_trees_advance_when_all_arrived}
use Rattle.tier_laws.proofs.answers.new_trees_advance_when_all_arrived.Goals as goal

pub returns : goal.returns
returns c = new_trees_advance_when_all_arrived
