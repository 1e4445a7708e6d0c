use Rattle.tier_steps.proofs.Start.{empty_trees_have_no_members}
use Rattle.tier_steps.proofs.laws.empty_trees_have_no_members.Goals as goal

pub returns : goal.returns
returns c = empty_trees_have_no_members
