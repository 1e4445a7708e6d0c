use Rattle.tier_laws.proofs.Ended.{ended_trees_turn_calls_away}
use Rattle.tier_laws.proofs.calls.ended_trees_turn_calls_away.Goals as goal

pub returns : goal.returns
returns c = ended_trees_turn_calls_away
