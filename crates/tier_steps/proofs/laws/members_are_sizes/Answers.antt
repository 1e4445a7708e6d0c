use Rattle.tier_steps.proofs.Ready.{members_are_sizes}
use Rattle.tier_steps.proofs.laws.members_are_sizes.Goals as goal

pub returns : goal.returns
returns c = members_are_sizes
