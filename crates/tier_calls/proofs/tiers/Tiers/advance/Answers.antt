use Rattle.std.proofs.Common.{arith}
use Rattle.std.proofs.lemmas.Grind.{common_steps}
use Rattle.tier_calls.proofs.Tries.{ran_once}
use Rattle.tier_calls.proofs.tiers.Tiers.advance.Goals as goal

pub returns : goal.returns
returns g c = ran_once c.stand_to.ensures.stood.went c.try_turn.ensures

pub returns-then-not-goes_on : goal.returns-then-not-goes_on
returns-then-not-goes_on = grind (arith, common_steps)
