use Rattle.std.proofs.Common.{◌∙◌, List, slice_get, sym, ap}
use Rattle.step_core.specs.SlotValue.{SlotValue}
use Rattle.step_core.proofs.Beside.{beside_at, beside_past_tasks, beside_past_done}
use Rattle.step_core.proofs.slot.Slots.at.Goals as goal

pub returns : goal.returns
returns c =
    let t = c.in-Some.ensures.lookup in
    let d = c.in-Some-get.ensures.lookup in
    ap (λ (ss : List SlotValue). slice_get ss c.args.place) (sym c.self.view_is)
    ∙ beside_at c.self.inside.tasks.now c.self.inside.done.now c.args.place c.in-Some.task.now c.in-Some-get.done.now t.3.0 t.1 d.3.0 d.1

pub returns-in_default : goal.returns-in_default
returns-in_default c =
    ap (λ (ss : List SlotValue). slice_get ss c.args.place) (sym c.self.view_is)
    ∙ beside_past_tasks c.self.inside.tasks.now c.self.inside.done.now c.args.place c.in_default.ensures.lookup.3

pub returns-in_default-get : goal.returns-in_default-get
returns-in_default-get c =
    ap (λ (ss : List SlotValue). slice_get ss c.args.place) (sym c.self.view_is)
    ∙ beside_past_done c.self.inside.tasks.now c.self.inside.done.now c.args.place c.in_default-get.ensures.lookup.3
