use Rattle.std.proofs.Common.{◌∙◌, ◌<◌, List, length, sym, ap, subst, arith}
use Rattle.std.specs.Arc.{arc_value}
use Rattle.step_core.specs.SlotValue.{SlotValue}
use Rattle.step_core.specs.Slots.{with_segment}
use Rattle.step_core.specs.SlotParts.{beside}
use Rattle.step_core.proofs.Beside.{beside_length, beside_set}
use Rattle.step_core.proofs.live.Live.put.Goals as goal

pub index_mut-requires : goal.index_mut-requires
index_mut-requires c =
    let ts = (arc_value c.self.inside.tasks).items in
    let l = beside_length ts c.self.inside.done.items c.self.invariant in
    let b : c.args.place < length (beside ts c.self.inside.done.items) =
    subst (λ (ss : List SlotValue). c.args.place < length ss) (sym c.self.view_is) c.requires in
    omega (arith, l, b, c.self.inside.done.ok.0)

pub returns : goal.returns
returns c =
    beside_set (arc_value c.self.inside.tasks).items c.self.inside.done.items c.args.place c.args.segment
    ∙ ap (λ (ss : List SlotValue). with_segment ss c.args.place c.args.segment) c.self.view_is
