use Rattle.std.proofs.Common.{arith}
use Rattle.tier_calls.proofs.Seating.{id_of}
use Rattle.tier_calls.proofs.Sitting.{split_allow}
use Rattle.tier_calls.proofs.tiers.Tiers.split_off.Goals as goal

pub split_seat-seat-requires : goal.split_seat-seat-requires
split_seat-seat-requires c =
    let some = c.self.invariant.shape.shape.some in (
      id_of _ _ _ c.token.inside.seat.me c.token.inside.view c.token.inside.tier c.token.inside.word _ _ c.token.view_is c.self.view_is
          c.requires.own,
      (let a = c.self.invariant.words_are in omega arith),
      split_allow _ c.token.invariant,
    )
