use Rattle.std.proofs.Common.{◌∙◌, sym, ap, arith}
use Rattle.tier_calls.specs.Holding.{Named}
use Rattle.tier_calls.proofs.NewTokens.{sit_all_allow, sat_pool, sat_now}
use Rattle.tier_calls.proofs.tiers.Tiers.sit_all_as.Goals as goal

pub load-requires : goal.load-requires
load-requires g c =
    let some = c.self.invariant.shape.shape.some in (
      c.requires.own ∙ ap (λ (z : Named). z.id) (sym c.self.view_is),
      (let a = c.self.invariant.words_are in omega arith),
      sit_all_allow _ _ _ c.args.seat.me c.requires.blank c.requires.key.0 c.self.view_is some,
    )

pub invariant_of-result : goal.invariant_of-result
invariant_of-result g c = sat_pool _ c.args.seat.me c.load.new.seat.me 0 c.requires.blank c.load.ensures.2 c.requires.key.1

pub returns : goal.returns
returns g c =
    sat_now c.load.new.seat.table_id c.args.seat.me c.load.new.seat.me 0 c.requires.blank c.load.ensures.2 c.requires.key.1 c.requires.key.0
    (c.load.ensures.0 ∙ c.requires.own)
