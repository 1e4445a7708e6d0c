use Rattle.tier_steps.proofs.Seats.{regrouping_keeps_tally}
use Rattle.tier_steps.proofs.laws.regrouping_keeps_tally.Goals as goal

pub returns : goal.returns
returns c = regrouping_keeps_tally
