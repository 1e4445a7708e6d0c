use Rattle.std.proofs.lemmas.Grind.{common_steps}
use Rattle.std.proofs.Common.{sym, ◌∙◌, arith}
use Rattle.tier_calls.proofs.Tries.{stands_by, ran_once}
use Rattle.tier_calls.proofs.tiers.Tiers.arrive_own.Goals as goal

pub arrive_at-requires-clause-passing : goal.arrive_at-requires-clause-passing
arrive_at-requires-clause-passing c = (c.stand_to.ensures.going (sym c.goes_on.ensures ∙ c.if-not-goes_on.false)).0 ∙ c.requires.passing

pub arrive_at-requires-clause-stands : goal.arrive_at-requires-clause-stands
arrive_at-requires-clause-stands c = stands_by c.stand_to.ensures.stood (sym c.goes_on.ensures ∙ c.if-not-goes_on.false)

pub returns : goal.returns
returns c = ran_once c.stand_to.ensures.stood.went c.arrive_at.ensures

pub returns-then-not-goes_on : goal.returns-then-not-goes_on
returns-then-not-goes_on = grind (arith, common_steps)
