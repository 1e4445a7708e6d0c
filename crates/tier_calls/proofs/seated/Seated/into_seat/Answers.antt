use Rattle.tier_calls.proofs.Sitting.{held_seat}
use Rattle.tier_calls.proofs.seated.Seated.into_seat.Goals as goal

pub returns-clause-seat : goal.returns-clause-seat
returns-clause-seat c = held_seat c.self.view_is c.self.invariant
