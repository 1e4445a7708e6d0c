use Rattle.tier_rule.proofs.FlatRun.{runs_are_flat}
use Rattle.tier_rule.proofs.laws.runs_are_flat.Goals as goal

pub returns : goal.returns
returns c = runs_are_flat
