use Rattle.tier_steps.proofs.Owners.{new_seats_look_the_same}
use Rattle.tier_steps.proofs.laws.new_seats_look_the_same.Goals as goal

pub returns : goal.returns
returns c = new_seats_look_the_same
