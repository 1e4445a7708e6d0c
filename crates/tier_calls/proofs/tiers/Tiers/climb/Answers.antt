use Rattle.std.proofs.lemmas.Grind.{common_steps}
use Rattle.std.proofs.Common.{ap, sym, ◌∙◌, arith}
use Rattle.tier_steps.specs.declared.view.View.{View}
use Rattle.tier_steps.specs.declared.view.Errand.TheVariants.{Climbing}
use Rattle.tier_steps.specs.declared.view.Passage.TheVariants.{Arrival, Departure}
use Rattle.tier_core.specs.declared.call.Played.TheVariants.{Done}
use Rattle.tier_calls.specs.Calls.{under}
use Rattle.tier_calls.proofs.Tries.{climb_by, stands_by, ran_once}
use Rattle.tier_calls.proofs.tiers.Tiers.climb.Goals as goal

pub pass_tier-requires-clause-turn : goal.pass_tier-requires-clause-turn
pass_tier-requires-clause-turn c =
    let on = sym c.goes_on.ensures ∙ c.if-not-goes_on.false in (
      Done c.stand_to.new.token.view.phase,
      climb_by c.args.self.now.key (under c.stand_to.new.token c.stand_to.new.course) c.args.own c.in-Climbing-errand.tier Arrival
          ((c.stand_to.ensures.going on).0 ∙ c.requires.owing)
          (ap (λ (v : View). v.errand) (sym c.view-2.ensures)
          ∙ (c.in-Climbing-errand.is ∙ ap (Climbing c.in-Climbing-errand.tier) c.in-Arrival.is))
          (stands_by c.stand_to.ensures.stood on),
    )

pub pass_tier-requires-in-Departure-clause-turn : goal.pass_tier-requires-in-Departure-clause-turn
pass_tier-requires-in-Departure-clause-turn c =
    let on = sym c.goes_on.ensures ∙ c.if-not-goes_on.false in (
      Done c.stand_to.new.token.view.phase,
      climb_by c.args.self.now.key (under c.stand_to.new.token c.stand_to.new.course) c.args.own c.in-Climbing-errand.tier Departure
          ((c.stand_to.ensures.going on).0 ∙ c.requires.owing)
          (ap (λ (v : View). v.errand) (sym c.view-2.ensures)
          ∙ (c.in-Climbing-errand.is ∙ ap (Climbing c.in-Climbing-errand.tier) c.in-Departure.is))
          (stands_by c.stand_to.ensures.stood on),
    )

pub returns-in-Arrival : goal.returns-in-Arrival
returns-in-Arrival c = ran_once c.stand_to.ensures.stood.went c.pass_tier.ensures

pub returns-in-Departure : goal.returns-in-Departure
returns-in-Departure c = ran_once c.stand_to.ensures.stood.went c.pass_tier-in-Departure.ensures

pub returns-then-not-goes_on : goal.returns-then-not-goes_on
returns-then-not-goes_on = grind (arith, common_steps)
