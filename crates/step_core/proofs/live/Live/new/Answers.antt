use Rattle.std.proofs.Common.{◌∙◌, map, ap}
use Rattle.step_core.specs.SlotParts.{beside, no_segment}
use Rattle.step_core.proofs.Beside.{beside_fresh}
use Rattle.step_core.proofs.live.Live.new.Goals as goal

pub returns-in-Ok : goal.returns-in-Ok
returns-in-Ok c =
    (λ i. beside ((c.in-Ok.ensures.ok i).items) ((c.set_undone.ensures ∙ ap (map no_segment) c.deref.ensures.value) i))
    ∙ beside_fresh c.args.tasks.items
