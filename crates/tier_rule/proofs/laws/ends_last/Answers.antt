use Rattle.tier_rule.proofs.Ends.{ends_last}
use Rattle.tier_rule.proofs.laws.ends_last.Goals as goal

pub returns : goal.returns
returns c = ends_last
