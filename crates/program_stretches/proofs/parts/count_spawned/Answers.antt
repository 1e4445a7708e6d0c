use Rattle.std.proofs.Common.{arith, ◌+◌, List, Option, drop, ap}
use Rattle.programs.specs.InPlace.{spawned_in}
use Rattle.program_stretches.specs.PartValue.{PartValue}
use Rattle.program_stretches.specs.Parts.{of_slot, deeds_in}
use Rattle.program_stretches.proofs.Along.{next_part, spawned_append}
use Rattle.program_stretches.proofs.parts.count_spawned.Goals as goal

pub returns-then-more-most : goal.returns-then-more-most
returns-then-more-most g c =
    let e =
    ap (λ (ss : List (Option (PartValue g.row.T.Denot))). spawned_in (deeds_in ss))
    (next_part c.args.parts.now c.loop-place.place c.index-parts-place.result c.loop-place-test.true c.index-parts-place.is) in
    let l =
    spawned_append (of_slot (λ part. part.deeds) c.index-parts-place.result) (deeds_in (drop (c.loop-place.place + 1) c.args.parts.now)) in
    omega (arith, e, l, c.spawned_by-more.ensures, c.loop-place.invariant.same, c.loop-place.invariant.below, c.if-more-most.true)

pub loop-place-preserved : goal.loop-place-preserved
loop-place-preserved g c =
    let e =
    ap (λ (ss : List (Option (PartValue g.row.T.Denot))). spawned_in (deeds_in ss))
    (next_part c.args.parts.now c.loop-place.place c.index-parts-place.result c.loop-place-test.true c.index-parts-place.is) in
    let l =
    spawned_append (of_slot (λ part. part.deeds) c.index-parts-place.result) (deeds_in (drop (c.loop-place.place + 1) c.args.parts.now)) in
    record {
      same = omega (arith, e, l, c.spawned_by-more.ensures, c.loop-place.invariant.same);
      below = omega (arith, c.loop-place.invariant.below, c.if-more-most.false);
    }
