use Rattle.task_lang.specs.Views.{plans}
use Rattle.step_core.proofs.Formed.{job_left}
use Rattle.step_core.proofs.job.JobProgramProgram.segment.Goals as goal

pub returns-in-Synced : goal.returns-in-Synced
returns-in-Synced c =
    job_left (plans c.args.self.now.job.now.bodies) c.args.arrays.now c.args.step _ _ c.args.task.now c.segment_into.new.task
    c.args.work.now c.segment_into.new.work
    c.in-Synced.is c.in_ok-segment_into.ensures

pub returns-in-Stopped : goal.returns-in-Stopped
returns-in-Stopped c =
    job_left (plans c.args.self.now.job.now.bodies) c.args.arrays.now c.args.step _ _ c.args.task.now c.segment_into.new.task
    c.args.work.now c.segment_into.new.work
    c.in-Stopped.is c.in_ok-segment_into.ensures
