use Rattle.std.proofs.Common.{◌∙◌, ap, arith, length}
use Rattle.program_stretches.specs.Parts.{renewed}
use Rattle.program_stretches.proofs.Along.{half_next, half_whole, none_here}
use Rattle.program_stretches.proofs.hand_over.renew_all.Goals as goal

pub loop-place-preserved : goal.loop-place-preserved
loop-place-preserved g c =
    (half_next renewed c.loop-place.place c.args.parts.now.items c.loop-place.parts.items c.index_mut.result.now c.loop-place.invariant
    (omega (arith, c.loop-place-test.true, c.len.ensures, c.loop-place.parts.ok.0)) c.index_mut.ensures.value).set
    c.renew.new.slot c.renew.ensures

pub returns : goal.returns
returns g c =
    let l = ap length c.loop-place.invariant in
    c.loop-place.invariant
    ∙ half_whole renewed c.loop-place.place c.args.parts.now.items
    (omega (arith, c.loop-place-test.false, c.len.ensures, c.loop-place.parts.ok.0, l))

pub renew-requires : goal.renew-requires
renew-requires g c =
    let at =
    half_next renewed c.loop-place.place c.args.parts.now.items c.loop-place.parts.items c.index_mut.result.now c.loop-place.invariant
    (omega (arith, c.loop-place-test.true, c.len.ensures, c.loop-place.parts.ok.0)) c.index_mut.ensures.value in
    none_here c.loop-place.place c.args.parts.now.items _ c.index_mut.result.now at.next c.requires.0 c.requires.1
