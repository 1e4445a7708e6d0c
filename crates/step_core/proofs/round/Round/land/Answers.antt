use Rattle.std.proofs.Common.{◌≤◌, ◌∙◌, refl, sym, ap, arith, length, map}
use Rattle.std.specs.Arc.{arc_value}
use Rattle.std.proofs.lemmas.List.{length-map}
use Rattle.task_lang.specs.Views.{plans}
use Rattle.superstep_memory.specs.PathOrder.{in_path_order}
use Rattle.step_core.specs.Slots.{missing_in}
use Rattle.step_core.specs.SlotParts.{path_in, living_in, fresh_slot}
use Rattle.step_core.specs.RoundView.{round_of}
use Rattle.step_core.proofs.Closed.{lands, went_on, all_small, closed_now, few_outcome, ends_by_over, over_now, over_opens}
use Rattle.step_core.proofs.Closed.{is_there}
use Rattle.step_core.proofs.Rounds.{all_missing}
use Rattle.step_core.proofs.round.Round.land.Goals as goal

pub take_superstep-taken-requires-clause-small : goal.take_superstep-taken-requires-clause-small
take_superstep-taken-requires-clause-small c =
    all_small (plans c.self.inside.job.now.bodies) (arc_value c.self.inside.start_arrays) c.self.inside.step c.self.inside.live
    c.self.invariant.0.fits

pub end-requires : goal.end-requires
end-requires c =
    let ps = plans c.self.inside.job.now.bodies in
    let at =
    lands (round_of c.self.inside) _ c.self.invariant.0 c.self.view_is c.requires.running c.requires.whole c.requires.faultless c.args.count
    c.requires.count in
    let n = at.2 in
    let same = c.in-Ok-Some.ensures.unlanded (is_there c.in-Ok-Some.field-0-is) in
    let ends =
    ends_by_over (round_of c.self.inside) _ c.self.view_is at.0 at.1 (map fresh_slot (in_path_order path_in (living_in c.self.inside.live)))
    refl (omega (arith, n, c.requires.few))
    c.in-Ok-Some.blame (sym c.in-Ok-Some.field-0-is ∙ c.in-Ok-Some.ensures.fault ps) in
    record {
      round =
          over_now c.self.inside.job.now c.self.inside.limit c.self.inside.step same.1 same.0 same.2 c.self.inside.fault c.in-Ok-Some.blame
          ends.0.0;
    }

pub returns-in-Ok-Some-clause-closed : goal.returns-in-Ok-Some-clause-closed
returns-in-Ok-Some-clause-closed c =
    let ps = plans c.self.inside.job.now.bodies in
    let at =
    lands (round_of c.self.inside) _ c.self.invariant.0 c.self.view_is c.requires.running c.requires.whole c.requires.faultless c.args.count
    c.requires.count in
    let n = at.2 in
    let same = c.in-Ok-Some.ensures.unlanded (is_there c.in-Ok-Some.field-0-is) in
    let ends =
    ends_by_over (round_of c.self.inside) _ c.self.view_is at.0 at.1 (map fresh_slot (in_path_order path_in (living_in c.self.inside.live)))
    refl (omega (arith, n, c.requires.few))
    c.in-Ok-Some.blame (sym c.in-Ok-Some.field-0-is ∙ c.in-Ok-Some.ensures.fault ps) in
    over_opens c.self.inside.job.now c.self.inside.limit c.self.inside.step same.1 same.0 same.2 c.self.inside.fault c.in-Ok-Some.blame _ _
    c.self.view_is ends.0 c.end.ensures.ended

pub returns-in-Ok-Some-clause-outcome : goal.returns-in-Ok-Some-clause-outcome
returns-in-Ok-Some-clause-outcome c =
    let ps = plans c.self.inside.job.now.bodies in
    let at =
    lands (round_of c.self.inside) _ c.self.invariant.0 c.self.view_is c.requires.running c.requires.whole c.requires.faultless c.args.count
    c.requires.count in
    let n = at.2 in
    (ends_by_over (round_of c.self.inside) _ c.self.view_is at.0 at.1 (map fresh_slot (in_path_order path_in (living_in c.self.inside.live))) refl (omega (arith, n, c.requires.few))
    c.in-Ok-Some.blame (sym c.in-Ok-Some.field-0-is ∙ c.in-Ok-Some.ensures.fault ps)).1

pub invariant_of-self-in-Ok-None : goal.invariant_of-self-in-Ok-None
invariant_of-self-in-Ok-None c =
    let ps = plans c.self.inside.job.now.bodies in
    let reported = c.in-Ok-None.ensures in
    let none = c.in-Ok-None.field-0-is in
    let at =
    lands (round_of c.self.inside) _ c.self.invariant.0 c.self.view_is c.requires.running c.requires.whole c.requires.faultless c.args.count
    c.requires.count in
    let few : length c.take_superstep-taken.new.self ≤ 4096 =
    let l = ap length (reported.next none) ∙ at.2 in omega (arith, l, c.requires.few) in
    let on =
    went_on c.self.inside.job.now c.self.inside.limit c.self.inside.step (arc_value c.self.inside.start_arrays) c.self.inside.live
    c.self.inside.finished.items c.self.inside.fault at.0 at.1 (sym (reported.fault ps) ∙ none) c.take_superstep-taken.new.self
    (reported.next none) few
    (arc_value c.take_superstep-taken.new.start_arrays) (reported.lands none ps) c.take_superstep-taken.new.finished.items
    (reported.tells none ps) in
    let l = ap missing_in (reported.next none) ∙ all_missing (in_path_order path_in (living_in c.self.inside.live)) in
    let m = length-map (in_path_order path_in (living_in c.self.inside.live)) fresh_slot in
    let n = at.2 in
    (on.0, omega (arith, l, m, n))

pub returns-in-Ok-None-clause-closed : goal.returns-in-Ok-None-clause-closed
returns-in-Ok-None-clause-closed c =
    let ps = plans c.self.inside.job.now.bodies in
    let reported = c.in-Ok-None.ensures in
    let none = c.in-Ok-None.field-0-is in
    let at =
    lands (round_of c.self.inside) _ c.self.invariant.0 c.self.view_is c.requires.running c.requires.whole c.requires.faultless c.args.count
    c.requires.count in
    let few : length c.take_superstep-taken.new.self ≤ 4096 =
    let l = ap length (reported.next none) ∙ at.2 in omega (arith, l, c.requires.few) in
    closed_now _ _ _ c.self.view_is
    (went_on c.self.inside.job.now c.self.inside.limit c.self.inside.step (arc_value c.self.inside.start_arrays) c.self.inside.live
    c.self.inside.finished.items c.self.inside.fault at.0 at.1 (sym (reported.fault ps) ∙ none) c.take_superstep-taken.new.self
    (reported.next none) few
    (arc_value c.take_superstep-taken.new.start_arrays) (reported.lands none ps) c.take_superstep-taken.new.finished.items
    (reported.tells none ps))

pub returns-in-Ok-None-clause-outcome : goal.returns-in-Ok-None-clause-outcome
returns-in-Ok-None-clause-outcome c =
    let ps = plans c.self.inside.job.now.bodies in
    let at =
    lands (round_of c.self.inside) _ c.self.invariant.0 c.self.view_is c.requires.running c.requires.whole c.requires.faultless c.args.count
    c.requires.count in
    let n = at.2 in
    few_outcome _ _ c.self.view_is at.1 (sym (c.in-Ok-None.ensures.fault ps) ∙ c.in-Ok-None.field-0-is)
    (map fresh_slot (in_path_order path_in (living_in c.self.inside.live))) refl (omega (arith, n, c.requires.few))
