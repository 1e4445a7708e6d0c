use Rattle.std.proofs.Common.{sym, arith, subst}
use Rattle.superstep_memory.specs.Taken.{HasBegun}
use Rattle.superstep_memory.specs.Lots.{puts_in}
use Rattle.superstep_memory.proofs.LotsTaken.{IsBeforeLast, before_row, before_one, has_row, nothing_begun, none_in}
use Rattle.superstep_memory.proofs.lots_landing.give_back_lots.Goals as goal
use Rattle.superstep_memory.proofs.lots_landing.give_back_lots.Goals.{then-lot+in-Some-split_last, else-lot}

pub overflow_sub-before : goal.overflow_sub-before
overflow_sub-before c =
    (before_row c.loop-lot.rest.now c.loop-lot.left.now c.in-Some.earlier.now c.in-Some.lot.now c.in-Some-split_last.fewer.now c.in-Some-split_last.row.now c.loop-lot.before c.len-before.result
    c.in-Some.ensures.cases.0 c.in-Some-split_last.ensures.cases.0 c.if-lot.true c.loop-lot.invariant.rows c.loop-lot.invariant.count
    (omega (arith, c.len-before.ensures, c.in-Some-split_last.row.now.values.ok.0))).0

pub overflow_sub-before-else-lot : goal.overflow_sub-before-else-lot
overflow_sub-before-else-lot c =
    (before_one c.loop-lot.rest.now c.loop-lot.left.now c.in-Some.earlier.now c.in-Some.lot.now c.loop-lot.before
    c.in-Some.ensures.cases.0 c.if-lot.false c.loop-lot.invariant.rows c.loop-lot.invariant.count).0

pub unreachable-requires : goal.unreachable-requires
unreachable-requires c =
    has_row c.loop-lot.rest.now c.in-Some.earlier.now c.in-Some.lot.now c.loop-lot.left.now c.in-Some.ensures.cases.0 c.if-lot.true
    c.loop-lot.invariant.rows c.in-None.ensures.cases

before : (c : goal.After-give_back_row)
    → IsBeforeLast c.loop-lot.rest.now c.loop-lot.left.now c.in-Some.earlier.now c.in-Some.lot.now c.if-lot.left.now c.if-lot.before
before c =
    elim c.if-lot.branch [
      | then-lot+in-Some-split_last w ↦
          rw w.left-is (rw w.before-is
          (before_row c.loop-lot.rest.now c.loop-lot.left.now c.in-Some.earlier.now c.in-Some.lot.now w.in-Some-split_last.fewer.now w.in-Some-split_last.row.now c.loop-lot.before w.len-before.result
          c.in-Some.ensures.cases.0 w.in-Some-split_last.ensures.cases.0 w.if-lot.true c.loop-lot.invariant.rows c.loop-lot.invariant.count
          (omega (arith, w.len-before.ensures, w.in-Some-split_last.row.now.values.ok.0))).1)
      | else-lot w ↦
          rw w.left-is (rw w.before-is
          (before_one c.loop-lot.rest.now c.loop-lot.left.now c.in-Some.earlier.now c.in-Some.lot.now c.loop-lot.before
          c.in-Some.ensures.cases.0 w.if-lot.false c.loop-lot.invariant.rows c.loop-lot.invariant.count).1)
    ]

pub loop-lot-preserved : goal.loop-lot-preserved
loop-lot-preserved c =
    let b = before c in
    record {
      back = λ xs h.
          c.give_back_row.ensures (puts_in c.in-Some.earlier.now c.if-lot.left.now) b.puts xs (sym b.count) b.side
          (subst (λ ps. HasBegun ps c.loop-lot.olds.items xs c.loop-lot.arrays) b.whole (c.loop-lot.invariant.back xs h));
      count = b.count;
      rows = b.rows;
    }

pub returns : goal.returns
returns c =
    λ xs h. nothing_begun (puts_in c.loop-lot.rest.now c.loop-lot.left.now)
    (none_in c.loop-lot.rest.now c.loop-lot.left.now c.in_default.ensures.cases) (c.loop-lot.invariant.back xs h)
