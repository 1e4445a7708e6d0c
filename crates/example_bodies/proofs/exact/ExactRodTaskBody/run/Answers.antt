use Rattle.std.proofs.Common.{◌≡◌, ◌++◌, ◌∷◌, ◌∙◌, [], arith, w64, to_z, of_z}
use Rattle.std.proofs.lemmas.Int.{ints}
use Rattle.example_bodies.proofs.Mixed.{mixed_more}
use Rattle.example_bodies.proofs.exact.ExactRodTaskBody.run.Goals as goal

pub loop-place-preserved : goal.loop-place-preserved
loop-place-preserved c =
    let i = c.loop-place.invariant in
    let v : to_z w64 (of_z w64 c.mixed.result) ≡ c.mixed.result = omega (arith, ints, c.mixed.type_inv) in
    record {
      done =
          mixed_more c.cells-cells.result.now c.args.piece.now.first c.loop-place.place c.loop-place.values.items c.push.new.self.items
          c.mixed.result i.low i.done c.mixed.ensures
          (c.in_ok-push.ensures.items ∙ (λ j. c.loop-place.values.items ++ v j ∷ []));
      low = omega (arith, i.low);
      high = omega (arith, c.loop-place-test.true);
    }
