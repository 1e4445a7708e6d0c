use Rattle.tier_laws.proofs.Ended.{force_ends_the_tree}
use Rattle.tier_laws.proofs.calls.force_ends_the_tree.Goals as goal

pub returns : goal.returns
returns c = force_ends_the_tree
