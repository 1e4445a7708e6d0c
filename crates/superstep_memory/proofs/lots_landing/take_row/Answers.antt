use Rattle.std.proofs.Common.{refl, arith}
use Rattle.std.proofs.lemmas.Int.{ints}
use Rattle.superstep_memory.proofs.LotsTaken.{row_none_taken, row_one_taken}
use Rattle.superstep_memory.proofs.lots_landing.take_row.Goals as goal

pub loop-value-init : goal.loop-value-init
loop-value-init c =
    record { taking = row_none_taken c.args.array c.args.first c.args.values.now c.args.olds.now.items c.args.arrays.now; count = refl }

pub loop-value-preserved : goal.loop-value-preserved
loop-value-preserved c = record {
  taking =
      row_one_taken c.from.result c.from-in-Some.result c.in-Some.value.now c.value_in-old.result _ _ c.loop-value.invariant.taking
      c.in-Some.ensures.cases.0 c.from.ensures c.from-in-Some.ensures
      c.value_in-old.ensures (omega (arith, ints)) (omega (arith, ints)) refl
      c.in_ok-push.ensures.items c.write_at.ensures;
  count = omega (arith, c.loop-value.invariant.count, c.in-Some.ensures.cases.1);
}
