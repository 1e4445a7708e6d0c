use Rattle.std.proofs.Common.{◌∙◌, ◌+◌, drop, ap}
use Rattle.programs.specs.InPlace.{maker}
use Rattle.program_stretches.specs.Parts.{settled_at, tasks_in, deeds_in}
use Rattle.program_stretches.proofs.Along.{next_part}
use Rattle.program_stretches.proofs.Blaming.{blame_here, blame_behind, blame_none, put_here, put_past}
use Rattle.program_stretches.proofs.parts.find_blame.Goals.{in-Some+in-Some-pass_by, in_default}
use Rattle.program_stretches.proofs.parts.find_blame.Goals as goal

pub returns-in-None : goal.returns-in-None
returns-in-None g c =
    let q = g.T.OnPath.path_of in
    let ps = c.args.parts.now in
    let k = c.loop-place.place in
    blame_here q (drop k ps) (drop (k + 1) ps) c.index-parts-place.result c.in-Some.part c.loop-place.left _ _ c.blame_at.result
    (next_part ps k c.index-parts-place.result c.loop-place-test.true c.index-parts-place.is) c.in-Some.is c.loop-place.invariant.each
    c.loop-place.invariant.same c.loop-place.invariant.at
    (put_here c.pass_by.result _ _ c.pass_by.ensures c.in-None.is) c.blame_at.ensures

pub loop-place-preserved : goal.loop-place-preserved
loop-place-preserved g c =
    let q = g.T.OnPath.path_of in
    let ps = c.args.parts.now in
    let k = c.loop-place.place in
    let next = next_part ps k c.index-parts-place.result c.loop-place-test.true c.index-parts-place.is in
    elim c.match-slot.branch [
      | in-Some+in-Some-pass_by w ↦
          let p = put_past w.pass_by.result _ _ _ w.pass_by.ensures w.in-Some-pass_by.is in
          let b =
          blame_behind q (drop k ps) (drop (k + 1) ps) c.index-parts-place.result w.in-Some.part c.loop-place.left c.match-slot.left _ _ next
          w.in-Some.is c.loop-place.invariant.each c.loop-place.invariant.same c.loop-place.invariant.at p.0 (w.left-is ∙ p.1) in
          record { each = b.each; same = b.same; at = b.at }
      | in_default w ↦
          let b =
          blame_none q (drop k ps) (drop (k + 1) ps) c.index-parts-place.result c.loop-place.left _ _ next w.in_default.is
          c.loop-place.invariant.each c.loop-place.invariant.same c.loop-place.invariant.at in
          record {
            each = b.each;
            same = ap (maker q (tasks_in (drop (k + 1) ps)) (deeds_in (drop (k + 1) ps))) w.left-is ∙ b.same;
            at = ap (settled_at (drop (k + 1) ps)) w.left-is ∙ b.at;
          }
    ]
