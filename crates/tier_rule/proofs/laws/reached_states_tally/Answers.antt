use Rattle.tier_rule.proofs.Reaching.{reached_states_tally}
use Rattle.tier_rule.proofs.laws.reached_states_tally.Goals as goal

pub returns : goal.returns
returns c = reached_states_tally
