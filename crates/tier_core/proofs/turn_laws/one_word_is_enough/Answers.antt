use Rattle.tier_core.proofs.Turns.{one_word_is_enough}
use Rattle.tier_core.proofs.turn_laws.one_word_is_enough.Goals as goal

pub returns : goal.returns
returns c = one_word_is_enough
