use Rattle.std.proofs.Common.{◌∙◌, sym, ap, arith}
use Rattle.tier_calls.specs.Holding.{Named}
use Rattle.tier_calls.proofs.LastOnes.{part_allow}
use Rattle.tier_calls.proofs.tiers.Tiers.part_first.Goals as goal

pub split_seat-requires : goal.split_seat-requires
split_seat-requires c =
    let some = c.self.invariant.shape.shape.some in (
      c.requires.own ∙ ap (λ (n : Named). n.id) (sym c.self.view_is),
      (let a = c.self.invariant.words_are in omega arith),
      part_allow _ _ _ (let a = c.requires.count.0 in let b = c.requires.count.1 in let d = c.if-count-eq1.false in omega arith),
    )
