use Rattle.tier_rule.proofs.Ends.{each_end_has_a_cause}
use Rattle.tier_rule.proofs.laws.each_end_has_a_cause.Goals as goal

pub returns : goal.returns
returns c = each_end_has_a_cause
