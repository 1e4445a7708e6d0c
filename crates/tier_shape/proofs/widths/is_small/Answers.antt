use Rattle.std.proofs.Common.{◌+◌, ◌*◌, add-one, arith}
use Rattle.std.proofs.lemmas.Bool.{false≢true}
use Rattle.tier_shape.proofs.Levels.{count_next, stays_over}
use Rattle.tier_shape.proofs.widths.is_small.Goals as goal

pub returns-then-count-gt-MOST_TIERS : goal.returns-then-count-gt-MOST_TIERS
returns-then-count-gt-MOST_TIERS c =
    let next =
    count_next c.args.widths.now c.loop-width.width-index c.from-size.result c.loop-width.size c.loop-width.count (omega arith)
    c.from-size.ensures c.loop-width.invariant.size c.loop-width.invariant.count in (
      λ e. absurd (false≢true e),
      λ few. absurd
          (stays_over c.args.widths.now c.loop-width.width-index (c.loop-width.count + c.loop-width.size * c.from-size.result) (omega arith) next.1 c.if-count-gt-MOST_TIERS.true few),
    )

pub loop-width-preserved : goal.loop-width-preserved
loop-width-preserved c =
    let next =
    count_next c.args.widths.now c.loop-width.width-index c.from-size.result c.loop-width.size c.loop-width.count (omega arith)
    c.from-size.ensures c.loop-width.invariant.size c.loop-width.invariant.count in
    rw add-one (record { size = next.0; count = next.1; few = omega arith })
