use Rattle.tier_steps.proofs.Joined.{new_seats_tally}
use Rattle.tier_steps.proofs.laws.new_seats_tally.Goals as goal

pub returns : goal.returns
returns c = new_seats_tally
