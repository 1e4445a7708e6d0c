use Rattle.tier_steps.proofs.Seats.{seats_keep_tally}
use Rattle.tier_steps.proofs.laws.seats_keep_tally.Goals as goal

pub returns : goal.returns
returns c = seats_keep_tally
