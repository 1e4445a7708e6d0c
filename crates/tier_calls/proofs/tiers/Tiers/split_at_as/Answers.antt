use Rattle.std.proofs.lemmas.Grind.{common_steps}
use Rattle.std.proofs.Common.{arith}
use Rattle.tier_calls.proofs.Grouping.{facts}
use Rattle.tier_calls.proofs.Splitting.{split_ok}
use Rattle.tier_calls.proofs.tiers.Tiers.split_at_as.Goals as goal

pub split_seat-seat-requires : goal.split_seat-seat-requires
split_seat-seat-requires g c =
    let some = c.self.invariant.shape.shape.some in
    let f = facts {me = c.group.inside.seat.me} c.group.invariant.0 c.group.view_is c.self.view_is c.requires.own in (
      f.same,
      (let a = c.self.invariant.words_are in omega arith),
      split_ok {me = c.group.inside.seat.me} _ c.group.invariant.0 c.group.view_is c.requires.count.0 c.requires.count.1
          c.requires.parts.0 c.requires.parts.1,
    )

pub invariant_of-group : goal.invariant_of-group
invariant_of-group = grind (arith, common_steps)

pub invariant_of-result : goal.invariant_of-result
invariant_of-result = grind (arith, common_steps)

pub returns : goal.returns
returns = grind (arith, common_steps)
