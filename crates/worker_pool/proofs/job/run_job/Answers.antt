use Rattle.std.proofs.Common.{map}
use Rattle.task_lang.specs.Views.{plans, task_of}
use Rattle.step_core.proofs.Starts.{job_left}
use Rattle.worker_pool.specs.JobPlan.{limit_of}
use Rattle.worker_pool.proofs.job.run_job.Goals as goal

pub returns-in-Ok-run_program-clause-report : goal.returns-in-Ok-run_program-clause-report
returns-in-Ok-run_program-clause-report g c =
    job_left c.args.job.now (limit_of c.args.advance.plan) c.in-Ok.field-0.arrays c.in-Ok.field-0.tasks.items
    c.in-Ok-run_program.field-0.report
    (map (task_of (plans c.args.job.now.bodies)) c.in-Ok-run_program.field-0.tasks.items) c.in-Ok.ensures.arrays c.in-Ok.ensures.tasks
    c.in-Ok-run_program.ensures.ran
