use Rattle.std.proofs.Common.{List, length, w64, to_z, of_z, arith, inr, refl, sym, ap, subst, ◌∙◌}
use Rattle.std.specs.Prelude.{ℤ}
use Rattle.std.proofs.lemmas.Int.{ints}
use Rattle.task_bodies.specs.declared.body.Ending.TheVariants.{Fails}
use Rattle.task_bodies.specs.Bodies.{left_so}
use Rattle.task_bodies.specs.Cells.{IsTooLarge}
use Rattle.task_bodies.proofs.Each.{summed_more, too_large, all_there}
use Rattle.task_bodies.proofs.cells.ReduceTaskBody.run.Goals as goal

pub loop-place-preserved : goal.loop-place-preserved
loop-place-preserved g c = record {
  done =
      summed_more (λ x v. goal.F-post g c.args.self.now.f x v) c.cells-cells.result.now c.loop-place.place _
      (to_z w64 c.loop-place.sum-bits) _ c.f-value.result (to_z w64 (of_z w64 c.f-value.result)) c.sum_of.result c.sum_of.ensures
      c.f-value.ensures (omega (arith, ints)) (omega (arith, ints, c.f-value.type_inv))
      c.args.kept.now.first c.in-Some.more _ c.loop-place.invariant.low c.loop-place.invariant.done
      (omega (arith, ints, c.loop-place.sum-is)) c.in-Some.is (omega (arith, ints));
  low = omega (arith, c.loop-place.invariant.low);
  high = omega (arith, c.loop-place-test.true);
}

pub returns-in_default : goal.returns-in_default
returns-in_default g c = record {
  there = λ e.
      inr
      (subst (λ (cs : List ℤ). IsTooLarge (λ x v. goal.F-post g c.args.self.now.f x v) cs c.args.kept.now (left_so (Fails 17) c.args.kept.now c.args.out.now)) c.cells-cells.ensures.cells
      (too_large (λ x v. goal.F-post g c.args.self.now.f x v) c.cells-cells.result.now c.loop-place.place _ (to_z w64 c.loop-place.sum-bits)
      _ c.f-value.result (to_z w64 (of_z w64 c.f-value.result)) c.sum_of.result c.sum_of.ensures c.f-value.ensures (omega (arith, ints))
      (omega (arith, ints, c.f-value.type_inv))
      c.args.kept.now (left_so (Fails 17) c.args.kept.now c.args.out.now) c.loop-place.invariant.low c.loop-place.invariant.done
      (omega (arith, ints, c.loop-place.sum-is)) c.loop-place-test.true c.in_default.is refl));
  not_there =
      λ e. all_there _ _ c.args.kept.now (omega (arith, ap length c.cells-cells.ensures.cells))
      (sym c.have_all.ensures ∙ c.if-not-have_all.false) e;
}
