use Rattle.std.proofs.Common.{◌≡◌, ◌∙◌, List, Option, map, length, sym, ap, arith}
use Rattle.std.specs.Arc.{arc_value}
use Rattle.superstep_memory.specs.PathOrder.{in_path_order}
use Rattle.task_lang.specs.SegmentValue.{SegmentValue}
use Rattle.step_core.specs.SlotParts.{beside, path_in, fresh_slot, living_by}
use Rattle.step_core.proofs.Beside.{beside_fresh, shown_living}
use Rattle.step_core.proofs.live.Live.take_superstep.Goals as goal

pub close_into-requires-clause-capacity : goal.close_into-requires-clause-capacity
close_into-requires-clause-capacity c =
    let same =
    shown_living (arc_value c.self.inside.tasks).items c.self.inside.done.items c.args.self.now c.self.invariant c.self.view_is in
    let k : c.args.count ≡ length (living_by c.list_for.new.done.items) = c.requires.count ∙ ap length same
    ∙ ap (λ (ds : List (Option SegmentValue)). length (living_by ds)) (sym c.in_ok-next.ensures.same) in
    omega (arith, k, c.in_ok-next.ensures.tasks.1)

pub close_into-requires-clause-places : goal.close_into-requires-clause-places
close_into-requires-clause-places c =
    let same =
    shown_living (arc_value c.self.inside.tasks).items c.self.inside.done.items c.args.self.now c.self.invariant c.self.view_is in
    let k : c.args.count ≡ length (living_by c.list_for.new.done.items) = c.requires.count ∙ ap length same
    ∙ ap (λ (ds : List (Option SegmentValue)). length (living_by ds)) (sym c.in_ok-next.ensures.same) in
    omega (arith, k, c.in_ok-next.ensures.places)

pub returns-clause-next : goal.returns-clause-next
returns-clause-next c = λ none.
    let same =
    shown_living (arc_value c.self.inside.tasks).items c.self.inside.done.items c.args.self.now c.self.invariant c.self.view_is in
    (λ i. beside (arc_value (c.replace-last.ensures.after i)).items c.close_into.new.done.items)
    ∙ (λ i. beside (arc_value c.close_into.new.next).items (c.in_ok-landed.ensures.none c.in_default.is i))
    ∙ beside_fresh (arc_value c.close_into.new.next).items
    ∙ ap (map fresh_slot)
    (c.in_ok-landed.ensures.tasks c.in_default.is
    ∙ ap (λ (ds : List (Option SegmentValue)). in_path_order path_in (living_by ds)) c.in_ok-next.ensures.same
    ∙ ap (in_path_order path_in) (sym same))
