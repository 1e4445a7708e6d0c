use Rattle.std.proofs.Common.{◌+◌, ◌∙◌, List, Option, drop, ap, arith, length, length-append}
use Rattle.program_stretches.specs.PartValue.{PartValue}
use Rattle.program_stretches.specs.Parts.{of_slot, prints_in, without_prints}
use Rattle.program_stretches.proofs.Along.{half_next, half_whole, half_none, in_turn_more, in_turn_all}
use Rattle.program_stretches.proofs.hand_over.give_all_prints.Goals as goal

pub give_prints-requires : goal.give_prints-requires
give_prints-requires g c =
    let at =
    half_next without_prints c.loop-place.place c.args.parts.now.items c.loop-place.parts.items c.index_mut.result.now
    c.loop-place.invariant.parts (omega (arith, c.loop-place-test.true, c.len.ensures, c.loop-place.parts.ok.0))
    c.index_mut.ensures.value in
    let l = ap (λ (ss : List (Option (PartValue g.row.T.Denot))). length (prints_in ss)) at.next in
    let m =
    length-append (of_slot (λ part. part.prints) c.index_mut.result.now)
    (prints_in (drop (c.loop-place.place + 1) c.args.parts.now.items)) in
    record { capacity = omega (arith, l, m, c.loop-place.invariant.capacity) }

pub loop-place-preserved : goal.loop-place-preserved
loop-place-preserved g c =
    let at =
    half_next without_prints c.loop-place.place c.args.parts.now.items c.loop-place.parts.items c.index_mut.result.now
    c.loop-place.invariant.parts (omega (arith, c.loop-place-test.true, c.len.ensures, c.loop-place.parts.ok.0))
    c.index_mut.ensures.value in
    let own = of_slot (λ part. part.prints) c.index_mut.result.now in
    let l = ap (λ (ss : List (Option (PartValue g.row.T.Denot))). length (prints_in ss)) at.next in
    let m = length-append own (prints_in (drop (c.loop-place.place + 1) c.args.parts.now.items)) in
    let n = ap length c.give_prints.ensures.given in
    let k = length-append c.loop-place.prints.items own in
    record {
      parts = at.set c.give_prints.new.slot c.give_prints.ensures.rest;
      prints =
          in_turn_more (λ part. part.prints) c.loop-place.prints.items c.give_prints.new.prints.items _ c.loop-place.place
          c.args.parts.now.items c.index_mut.result.now c.give_prints.ensures.given at.next c.loop-place.invariant.prints;
      capacity =
          omega (
            arith,
            l,
            m,
            n,
            k,
            c.loop-place.invariant.capacity,
            c.give_prints.ensures.capacity,
            c.loop-place.prints.ok.0,
            c.give_prints.new.prints.ok.0,
          );
    }

pub returns-clause-given : goal.returns-clause-given
returns-clause-given g c =
    let l = ap length c.loop-place.invariant.parts in
    in_turn_all (λ part. part.prints) c.loop-place.prints.items _ c.loop-place.place c.args.parts.now.items
    (half_none without_prints c.loop-place.place c.args.parts.now.items (omega (arith, c.loop-place-test.false, c.len.ensures, c.loop-place.parts.ok.0, l)))
    c.loop-place.invariant.prints

pub returns-clause-rest : goal.returns-clause-rest
returns-clause-rest g c =
    let l = ap length c.loop-place.invariant.parts in
    c.loop-place.invariant.parts
    ∙ half_whole without_prints c.loop-place.place c.args.parts.now.items
    (omega (arith, c.loop-place-test.false, c.len.ensures, c.loop-place.parts.ok.0, l))
