use Rattle.tier_steps.proofs.Joined.{joined_seats_tally}
use Rattle.tier_steps.proofs.laws.joined_seats_tally.Goals as goal

pub returns : goal.returns
returns c = joined_seats_tally
