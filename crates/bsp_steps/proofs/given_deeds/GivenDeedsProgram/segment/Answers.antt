use Rattle.std.proofs.Common.{◌≡◌, ◌∙◌, Some, None, sym, subst}
use Rattle.std.specs.Prelude.{slice_get}
use Rattle.programs.specs.declared.work.SegmentEnd.TheVariants as ended
use Rattle.task_bodies.proofs.Framed.{if_ok}
use Rattle.bsp_steps.specs.Given.{left_in}
use Rattle.bsp_steps.proofs.Left.{IsSo, below, not_below, has_left, left_ungiven, slice_of, slice_none}
use Rattle.bsp_steps.proofs.given_deeds.GivenDeedsProgram.segment.Goals as goal

pub returns-in-Some : goal.returns-in-Some
returns-in-Some c =
    let t = c.args.task.now in
    let arrays = c.args.arrays.now in
    let deeds = c.args.self.now.deeds.now in
    let h = c.in-Some.ensures.lookup in
    let at : slice_get deeds t.kept.place ≡ Some c.in-Some.deed.now =
    (λ i. slice_get deeds (sym c.origin.ensures i).place) ∙ slice_of deeds c.origin.result.place c.in-Some.deed.now (below _ _ h.0) h.1 in
    if_ok c.act.result _ _ c.act.ensures (λ e s.
    has_left deeds arrays c.args._step t c.act.new.task e c.args.work.now c.act.new.work
    (subst (IsSo arrays t c.act.new.task e c.args.work.now c.act.new.work) (λ i. left_in (sym at i) t.kept) s))

pub returns-in-None : goal.returns-in-None
returns-in-None c =
    let t = c.args.task.now in
    let arrays = c.args.arrays.now in
    let deeds = c.args.self.now.deeds.now in
    let h = c.in-None.ensures.lookup in
    let at : slice_get deeds t.kept.place ≡ None =
    (λ i. slice_get deeds (sym c.origin.ensures i).place) ∙ slice_none deeds c.origin.result.place (not_below _ _ h.0) in
    has_left deeds arrays c.args._step t t ended.Stops c.args.work.now c.args.work.now
    (subst (IsSo arrays t t ended.Stops c.args.work.now c.args.work.now) (λ i. left_in (sym at i) t.kept) (left_ungiven arrays t c.args.work.now c.requires.none_printed c.requires.none_spawned))
