use Rattle.std.proofs.Common.{◌∙◌, sym, ap, arith}
use Rattle.tier_calls.specs.Holding.{Named}
use Rattle.tier_calls.proofs.ExchangeTry.{part_ok}
use Rattle.tier_calls.proofs.tiers.Tiers.part_seat_as.Goals as goal

pub split_seat-requires : goal.split_seat-requires
split_seat-requires g c =
    let some = c.self.invariant.shape.shape.some in (
      c.requires.own ∙ ap (λ (z : Named). z.id) (sym c.self.view_is),
      (let a = c.self.invariant.words_are in omega arith),
      part_ok _ c.args.seat.now.me.0 c.requires.count.0 c.requires.count.1 c.requires.parts.0 c.requires.parts.1,
    )
