use Rattle.std.proofs.Common.{◌∙◌, ◌<◌, List, length, slice_get, sym, ap, subst, arith}
use Rattle.std.specs.Arc.{arc_value}
use Rattle.step_core.specs.SlotValue.{SlotValue}
use Rattle.step_core.specs.SlotParts.{beside}
use Rattle.step_core.specs.Taking.{is_done}
use Rattle.step_core.proofs.Beside.{beside_length, beside_done}
use Rattle.step_core.proofs.live.Live.is_done.Goals as goal

pub index-requires : goal.index-requires
index-requires c =
    let ts = (arc_value c.self.inside.tasks).items in
    let l = beside_length ts c.self.inside.done.items c.self.invariant in
    let b : c.args.place < length (beside ts c.self.inside.done.items) =
    subst (λ (ss : List SlotValue). c.args.place < length ss) (sym c.self.view_is) c.requires in
    omega (arith, l, b, c.self.inside.done.ok.0)

pub returns : goal.returns
returns c =
    let ts = (arc_value c.self.inside.tasks).items in
    let l = beside_length ts c.self.inside.done.items c.self.invariant in
    let b : c.args.place < length (beside ts c.self.inside.done.items) =
    subst (λ (ss : List SlotValue). c.args.place < length ss) (sym c.self.view_is) c.requires in
    let below : c.args.place < length c.self.inside.done.items = omega (arith, l, b) in
    c.is_some.ensures
    ∙ beside_done ts c.self.inside.done.items c.args.place c.index.result.now c.self.invariant below c.index.ensures
    ∙ ap (λ (ss : List SlotValue). is_done (slice_get ss c.args.place)) c.self.view_is
