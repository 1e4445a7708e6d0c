use Rattle.std.proofs.Common.{rules, arith}
use Rattle.std.proofs.lemmas.Int.{ints}
use Rattle.task_bodies.proofs.Mapped.{mapped_on}
use Rattle.task_bodies.proofs.kernel.StencilTaskBody.run.Goals as goal

pub loop-place-preserved : goal.loop-place-preserved
loop-place-preserved g c = record {
  done =
      mapped_on _ c.cells-cells.result.now c.args.kept.now.before c.loop-place.place c.loop-place.values.items c.push.new.self.items _ _ _
      c.f-value.result
      c.loop-place.invariant.low c.loop-place.invariant.done c.f-value.ensures (omega (arith, ints)) (omega (arith, ints))
      (omega (arith, ints)) (search rules);
  low = omega (arith, c.loop-place.invariant.low);
  high = omega (arith, c.loop-place-test.true);
}
