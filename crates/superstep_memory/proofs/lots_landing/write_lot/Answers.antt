use Rattle.std.proofs.Common.{arith}
use Rattle.std.proofs.lemmas.Int.{ints}
use Rattle.superstep_memory.proofs.LotLemmas.{put_written, row_written, no_row_written, not_true, not_false}
use Rattle.superstep_memory.proofs.lots_landing.write_lot.Goals as goal

pub returns-then-not-lot-clause-arrays : goal.returns-then-not-lot-clause-arrays
returns-then-not-lot-clause-arrays c =
    put_written c.args.arrays.now c.write.new.self c.args.lot c.args.rows.now c.put.result _ (not_true c.args.lot.is_row c.if-not-lot.true)
    c.put.ensures (omega (arith, ints)) c.requires c.write.ensures

pub returns-in-Some-clause-arrays : goal.returns-in-Some-clause-arrays
returns-in-Some-clause-arrays c =
    row_written c.args.arrays.now c.write_row.new.self c.args.lot c.args.rows.now c.in-Some.row.now c.in-Some.after.now c.deref.result.now
    (not_false c.args.lot.is_row c.if-not-lot.false) c.in-Some.ensures.cases.0 c.deref.ensures.value c.write_row.ensures

pub returns-in-None-clause-arrays : goal.returns-in-None-clause-arrays
returns-in-None-clause-arrays c =
    no_row_written c.args.arrays.now c.args.lot c.args.rows.now (not_false c.args.lot.is_row c.if-not-lot.false) c.in-None.ensures.cases
