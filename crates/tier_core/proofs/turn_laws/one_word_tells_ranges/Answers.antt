use Rattle.tier_core.proofs.Turns.{one_word_tells_ranges}
use Rattle.tier_core.proofs.turn_laws.one_word_tells_ranges.Goals as goal

pub returns : goal.returns
returns c = one_word_tells_ranges
