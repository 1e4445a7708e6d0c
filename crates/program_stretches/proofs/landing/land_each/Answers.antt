use Rattle.std.proofs.Common.{◌≡◌, [], drop, arith}
use Rattle.std.proofs.lemmas.List.{drop_all}
use Rattle.program_stretches.proofs.Along.{next_part}
use Rattle.program_stretches.proofs.InTurn.{sets_next, landed_next, landed_last}
use Rattle.program_stretches.proofs.landing.land_each.Goals as goal

pub land_one-requires : goal.land_one-requires
land_one-requires g c =
    let n = next_part c.args.parts.now c.loop-place.place c.index-parts-place.result c.loop-place-test.true c.index-parts-place.is in
    (sets_next c.args.parts.now c.loop-place.place c.index-parts-place.result n c.loop-place.invariant.sets).0

pub loop-place-preserved : goal.loop-place-preserved
loop-place-preserved g c =
    let n = next_part c.args.parts.now c.loop-place.place c.index-parts-place.result c.loop-place-test.true c.index-parts-place.is in
    record {
      landed =
          landed_next c.loop-place.arrays c.land_one.new.arrays c.args.parts.now c.loop-place.place c.index-parts-place.result n
          c.land_one.ensures c.loop-place.invariant.landed;
      sets = (sets_next c.args.parts.now c.loop-place.place c.index-parts-place.result n c.loop-place.invariant.sets).1;
    }

pub returns : goal.returns
returns g c =
    let n : drop c.loop-place.place c.args.parts.now ≡ [] =
    drop_all c.loop-place.place c.args.parts.now (omega (arith, c.loop-place-test.false)) in
    landed_last c.loop-place.arrays (drop c.loop-place.place c.args.parts.now) n c.loop-place.invariant.landed
