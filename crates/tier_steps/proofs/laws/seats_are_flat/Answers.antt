use Rattle.tier_steps.proofs.Joined.{seats_are_flat}
use Rattle.tier_steps.proofs.laws.seats_are_flat.Goals as goal

pub returns : goal.returns
returns c = seats_are_flat
