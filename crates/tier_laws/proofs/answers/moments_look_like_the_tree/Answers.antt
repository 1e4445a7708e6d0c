use Rattle.tier_laws.proofs.Reached.{moments_look_like_the_tree}
use Rattle.tier_laws.proofs.answers.moments_look_like_the_tree.Goals as goal

pub returns : goal.returns
returns c = moments_look_like_the_tree
