use Rattle.std.proofs.Common.{◌∙◌, List, map, sym, ap}
use Rattle.std.proofs.lemmas.Result.{IfOk-weaker}
use Rattle.std.specs.Arc.{arc_value}
use Rattle.step_core.specs.SlotValue.{SlotValue}
use Rattle.step_core.specs.Taking.{task_at}
use Rattle.step_core.proofs.Beside.{beside_tasks}
use Rattle.step_core.proofs.live.Live.tasks.Goals as goal

pub returns : goal.returns
returns c =
    IfOk-weaker c.try_clone.result _ _ (λ tasks h. (λ i. (h i).items)
    ∙ sym (beside_tasks (arc_value c.self.inside.tasks).items c.self.inside.done.items c.self.invariant)
    ∙ ap (λ (ss : List SlotValue). map task_at ss) c.self.view_is) c.try_clone.ensures
