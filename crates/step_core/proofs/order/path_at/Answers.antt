use Rattle.std.proofs.Common.{◌∙◌, ap, sym, Some, ℕ, List}
use Rattle.task_lang.specs.TaskValue.{TaskValue}
use Rattle.step_core.proofs.Deeds.{path_got}
use Rattle.step_core.proofs.order.path_at.Goals as goal

pub returns-in-Some : goal.returns-in-Some
returns-in-Some c =
    let l = c.in-Some.ensures.lookup in
    ap (λ (p : List ℕ). Some p) (c.as_slice.ensures ∙ ap (λ (t : TaskValue). t.path) c.task.view_is)
    ∙ sym (path_got c.args.tasks.now c.args.place c.in-Some.task.now l.3.0 l.1)
