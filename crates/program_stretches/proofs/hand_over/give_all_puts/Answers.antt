use Rattle.std.proofs.Common.{◌∙◌, ap, arith, length}
use Rattle.program_stretches.specs.Parts.{without_puts}
use Rattle.program_stretches.proofs.Along.{half_next, half_whole, half_none, in_turn_more, in_turn_all}
use Rattle.program_stretches.proofs.hand_over.give_all_puts.Goals as goal

pub loop-place-preserved : goal.loop-place-preserved
loop-place-preserved g c =
    let at =
    half_next without_puts c.loop-place.place c.args.parts.now.items c.loop-place.parts.items c.index_mut.result.now
    c.loop-place.invariant.parts (omega (arith, c.loop-place-test.true, c.len.ensures, c.loop-place.parts.ok.0))
    c.index_mut.ensures.value in
    record {
      parts = at.set c.give_puts.new.slot c.in_ok-give_puts.ensures.rest;
      puts =
          in_turn_more (λ part. part.puts) c.loop-place.puts c.give_puts.new.puts _ c.loop-place.place c.args.parts.now.items
          c.index_mut.result.now c.in_ok-give_puts.ensures.given at.next c.loop-place.invariant.puts;
    }

pub returns-clause-given : goal.returns-clause-given
returns-clause-given g c =
    let l = ap length c.loop-place.invariant.parts in
    in_turn_all (λ part. part.puts) c.loop-place.puts _ c.loop-place.place c.args.parts.now.items
    (half_none without_puts c.loop-place.place c.args.parts.now.items (omega (arith, c.loop-place-test.false, c.len.ensures, c.loop-place.parts.ok.0, l)))
    c.loop-place.invariant.puts

pub returns-clause-rest : goal.returns-clause-rest
returns-clause-rest g c =
    let l = ap length c.loop-place.invariant.parts in
    c.loop-place.invariant.parts
    ∙ half_whole without_puts c.loop-place.place c.args.parts.now.items
    (omega (arith, c.loop-place-test.false, c.len.ensures, c.loop-place.parts.ok.0, l))
