use Rattle.std.proofs.lemmas.Grind.{common_steps}
use Rattle.std.proofs.Common.{ap, sym, ◌∙◌, arith}
use Rattle.tier_core.specs.Turn.{end_shown}
use Rattle.tier_core.specs.declared.call.Progress.TheVariants.{Passing}
use Rattle.tier_steps.specs.declared.view.Passage.TheVariants.{Arrival, Departure}
use Rattle.tier_calls.specs.Calls.{under}
use Rattle.tier_calls.proofs.Tries.{own_turn, stands_by, ran_once}
use Rattle.tier_calls.proofs.tiers.Tiers.pass_own.Goals as goal

pub pass_tier-requires-clause-turn : goal.pass_tier-requires-clause-turn
pass_tier-requires-clause-turn c =
    let on = sym c.goes_on.ensures ∙ c.if-not-goes_on.false in (
      end_shown c.stand_to.new.token.word,
      own_turn c.args.self.now.key (under c.stand_to.new.token c.stand_to.new.course) Arrival
          ((c.stand_to.ensures.going on).0 ∙ (c.requires.passing ∙ ap Passing c.in-Arrival.is)) (stands_by c.stand_to.ensures.stood on),
    )

pub pass_tier-requires-in-Departure-clause-turn : goal.pass_tier-requires-in-Departure-clause-turn
pass_tier-requires-in-Departure-clause-turn c =
    let on = sym c.goes_on.ensures ∙ c.if-not-goes_on.false in (
      end_shown c.stand_to.new.token.word,
      own_turn c.args.self.now.key (under c.stand_to.new.token c.stand_to.new.course) Departure
          ((c.stand_to.ensures.going on).0 ∙ (c.requires.passing ∙ ap Passing c.in-Departure.is)) (stands_by c.stand_to.ensures.stood on),
    )

pub returns-in-Arrival : goal.returns-in-Arrival
returns-in-Arrival c = ran_once c.stand_to.ensures.stood.went c.pass_tier.ensures

pub returns-in-Departure : goal.returns-in-Departure
returns-in-Departure c = ran_once c.stand_to.ensures.stood.went c.pass_tier-in-Departure.ensures

pub returns-then-not-goes_on : goal.returns-then-not-goes_on
returns-then-not-goes_on = grind (arith, common_steps)
