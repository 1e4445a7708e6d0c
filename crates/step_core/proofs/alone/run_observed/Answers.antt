use Rattle.std.proofs.Common.{map}
use Rattle.task_lang.specs.Views.{plans, task_of}
use Rattle.step_core.proofs.Watching.{job_leaves}
use Rattle.step_core.proofs.alone.run_observed.Goals as goal

pub returns-clause-report : goal.returns-clause-report
returns-clause-report g c =
    (job_leaves g.W.Observe.seen c.args.limit c.in_ok-ran.ran.report (map (task_of (plans c.args.job.now.bodies)) c.in_ok-ran.ran.tasks.items)
    c.args.job.now c.in_ok-arrays.field-0.arrays c.in_ok-arrays.field-0.tasks.items c.in_ok-arrays.ensures.arrays
    c.in_ok-arrays.ensures.tasks c.in_ok-ran.ensures).report

pub returns-clause-seen : goal.returns-clause-seen
returns-clause-seen g c =
    (job_leaves g.W.Observe.seen c.args.limit c.in_ok-ran.ran.report (map (task_of (plans c.args.job.now.bodies)) c.in_ok-ran.ran.tasks.items)
    c.args.job.now c.in_ok-arrays.field-0.arrays c.in_ok-arrays.field-0.tasks.items c.in_ok-arrays.ensures.arrays
    c.in_ok-arrays.ensures.tasks c.in_ok-ran.ensures).saw
