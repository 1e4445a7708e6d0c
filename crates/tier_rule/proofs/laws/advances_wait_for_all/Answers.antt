use Rattle.tier_rule.proofs.Groups.{advances_wait_for_all}
use Rattle.tier_rule.proofs.laws.advances_wait_for_all.Goals as goal

pub returns : goal.returns
returns c = advances_wait_for_all
