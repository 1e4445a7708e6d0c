use Rattle.std.proofs.Common.{map, sym, subst}
use Rattle.programs.specs.Order.{AreOrdered}
use Rattle.programs.specs.Steps.{StepsValue}
use Rattle.step_core.specs.Superstep.{job_frame}
use Rattle.task_lang.specs.TaskValue.{TaskValue}
use Rattle.task_lang.specs.Views.{plans, task_of}
use Rattle.step_core.proofs.steps.JobSteps.new.Goals as goal

pub invariant_of-result : goal.invariant_of-result
invariant_of-result c =
    subst (λ (v : StepsValue TaskValue). AreOrdered job_frame (map (task_of (plans c.args.job.now.bodies)) v.tasks))
    (sym c.new.ensures.begun)
    (c.new.ensures.ordered (record { job = c.args.job }))
