use Rattle.std.proofs.Common.{◌∙◌, ◌∷◌, ap, sym, arith, length}
use Rattle.std.proofs.lemmas.List.{length-append}
use Rattle.superstep_memory.specs.declared.arrays.Put.{Put}
use Rattle.std.proofs.lemmas.Int.{ints}
use Rattle.superstep_memory.specs.Lots.{puts_in}
use Rattle.superstep_memory.specs.Rows.{row_puts}
use Rattle.superstep_memory.proofs.Taken.{taking_none, taking_more}
use Rattle.superstep_memory.proofs.Rows.{sets_row, row_count}
use Rattle.superstep_memory.proofs.LotsTaken.{taking_row, begun_row, taking_count, lot_row, lot_one}
use Rattle.superstep_memory.proofs.lots_landing.take_lots.Goals as goal

pub loop-lot-init : goal.loop-lot-init
loop-lot-init c = taking_none (puts_in c.args.lots.now c.args.rows.now) c.args.olds.now.items c.args.arrays.now c.requires.none

pub returns-in_err-take_row-clause-taken : goal.returns-in_err-take_row-clause-taken
returns-in_err-take_row-clause-taken c =
    begun_row (row_puts c.in-Some.lot.now.array c.in-Some.lot.now.index c.deref.result.now)
    (puts_in c.in-Some.after.now c.in-Some-split_first.later.now) c.loop-lot.invariant
    (lot_row c.loop-lot.rest.now c.loop-lot.left.now c.in-Some.lot.now c.in-Some.after.now c.in-Some-split_first.row.now c.in-Some-split_first.later.now c.deref.result.now
    c.in-Some.ensures.cases.0 c.if-lot.true c.in-Some-split_first.ensures.cases.0 c.deref.ensures.value)
    c.take_row.ensures.begun

pub overflow_add-place : goal.overflow_add-place
overflow_add-place c =
    let e =
    lot_row c.loop-lot.rest.now c.loop-lot.left.now c.in-Some.lot.now c.in-Some.after.now c.in-Some-split_first.row.now
    c.in-Some-split_first.later.now c.deref.result.now
    c.in-Some.ensures.cases.0 c.if-lot.true c.in-Some-split_first.ensures.cases.0 c.deref.ensures.value in
    let all = taking_count c.loop-lot.invariant in
    let n =
    ap length e
    ∙ length-append (row_puts c.in-Some.lot.now.array c.in-Some.lot.now.index c.deref.result.now)
    (puts_in c.in-Some.after.now c.in-Some-split_first.later.now) in
    let m = row_count c.in-Some.lot.now.array c.in-Some.lot.now.index c.deref.result.now in
    omega (
      arith,
      all,
      n,
      m,
      c.requires.count,
      c.ranges.count.fits,
      c.len-place.ensures,
      ap length c.deref.ensures.value,
      c.in-Some-split_first.row.now.values.ok.0,
    )

pub loop-lot-preserved-in_ok-take_row : goal.loop-lot-preserved-in_ok-take_row
loop-lot-preserved-in_ok-take_row c =
    let e =
    lot_row c.loop-lot.rest.now c.loop-lot.left.now c.in-Some.lot.now c.in-Some.after.now c.in-Some-split_first.row.now
    c.in-Some-split_first.later.now c.deref.result.now
    c.in-Some.ensures.cases.0 c.if-lot.true c.in-Some-split_first.ensures.cases.0 c.deref.ensures.value in
    let m = row_count c.in-Some.lot.now.array c.in-Some.lot.now.index c.deref.result.now in
    taking_row (row_puts c.in-Some.lot.now.array c.in-Some.lot.now.index c.deref.result.now) c.loop-lot.invariant e
    (sets_row c.in-Some.lot.now.array c.in-Some.lot.now.index c.deref.result.now)
    (omega (arith, m, c.len-place.ensures, ap length c.deref.ensures.value, c.in-Some-split_first.row.now.values.ok.0))
    c.in_ok-take_row.ensures.taken

pub loop-lot-preserved : goal.loop-lot-preserved
loop-lot-preserved c =
    taking_more c.put-put.result c.value_at-old.result _ _ c.in-Some-after_put.value _ c.loop-lot.invariant
    (lot_one c.loop-lot.rest.now c.loop-lot.left.now c.in-Some.lot.now c.in-Some.after.now c.in-Some.ensures.cases.0 c.if-lot.false
    ∙ ap (λ (p : Put). p ∷ puts_in c.in-Some.after.now c.loop-lot.left.now) (sym c.put-put.ensures))
    c.value_at-old.ensures (omega (arith, ints)) (omega (arith, ints)) (omega (arith, ints)) c.in-Some-after_put.ensures
    c.in_ok-push.ensures.items c.write.ensures
