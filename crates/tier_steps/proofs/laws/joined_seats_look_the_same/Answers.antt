use Rattle.tier_steps.proofs.Owners.{joined_seats_look_the_same}
use Rattle.tier_steps.proofs.laws.joined_seats_look_the_same.Goals as goal

pub returns : goal.returns
returns c = joined_seats_look_the_same
