use Rattle.std.proofs.Common.{◌∙◌, ap, arith, length}
use Rattle.program_stretches.specs.Parts.{without_tasks}
use Rattle.program_stretches.proofs.Along.{half_next, half_whole, half_none, in_turn_more, in_turn_all}
use Rattle.program_stretches.proofs.hand_over.give_all_tasks.Goals as goal

pub loop-place-preserved : goal.loop-place-preserved
loop-place-preserved g c =
    let at =
    half_next without_tasks c.loop-place.place c.args.parts.now.items c.loop-place.parts.items c.index_mut.result.now
    c.loop-place.invariant.parts (omega (arith, c.loop-place-test.true, c.len.ensures, c.loop-place.parts.ok.0))
    c.index_mut.ensures.value in
    record {
      parts = at.set c.give_tasks.new.slot c.in_ok-give_tasks.ensures.rest;
      tasks =
          in_turn_more (λ part. part.tasks) c.loop-place.tasks.items c.give_tasks.new.tasks.items _ c.loop-place.place
          c.args.parts.now.items c.index_mut.result.now c.in_ok-give_tasks.ensures.tasks at.next c.loop-place.invariant.tasks;
      deeds =
          in_turn_more (λ part. part.deeds) c.loop-place.deeds c.give_tasks.new.deeds _ c.loop-place.place c.args.parts.now.items
          c.index_mut.result.now c.in_ok-give_tasks.ensures.deeds at.next c.loop-place.invariant.deeds;
    }

pub returns-clause-tasks : goal.returns-clause-tasks
returns-clause-tasks g c =
    let l = ap length c.loop-place.invariant.parts in
    in_turn_all (λ part. part.tasks) c.loop-place.tasks.items _ c.loop-place.place c.args.parts.now.items
    (half_none without_tasks c.loop-place.place c.args.parts.now.items (omega (arith, c.loop-place-test.false, c.len.ensures, c.loop-place.parts.ok.0, l)))
    c.loop-place.invariant.tasks

pub returns-clause-deeds : goal.returns-clause-deeds
returns-clause-deeds g c =
    let l = ap length c.loop-place.invariant.parts in
    in_turn_all (λ part. part.deeds) c.loop-place.deeds _ c.loop-place.place c.args.parts.now.items
    (half_none without_tasks c.loop-place.place c.args.parts.now.items (omega (arith, c.loop-place-test.false, c.len.ensures, c.loop-place.parts.ok.0, l)))
    c.loop-place.invariant.deeds

pub returns-clause-rest : goal.returns-clause-rest
returns-clause-rest g c =
    let l = ap length c.loop-place.invariant.parts in
    c.loop-place.invariant.parts
    ∙ half_whole without_tasks c.loop-place.place c.args.parts.now.items
    (omega (arith, c.loop-place-test.false, c.len.ensures, c.loop-place.parts.ok.0, l))
