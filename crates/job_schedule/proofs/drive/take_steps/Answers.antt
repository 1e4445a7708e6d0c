use Rattle.std.proofs.Common.{◌≡◌, IfOk, map, subst}
use Rattle.job_schedule.specs.AnswerValue.{answer_seen}
use Rattle.job_schedule.specs.World.{World, answers}
use Rattle.job_schedule.specs.Parts.{world_of}
use Rattle.job_schedule.proofs.Kept.{initial_reached}
use Rattle.job_schedule.proofs.drive.take_steps.Goals as goal

pub returns : goal.returns
returns c =
    subst (λ (w : World). IfOk c.take_each.result (λ replies. map answer_seen replies.items ≡ answers w c.args.steps.now))
    c.in_ok-schedule.ensures.world c.take_each.ensures

pub take_each-requires-clause-reached : goal.take_each-requires-clause-reached
take_each-requires-clause-reached c =
    initial_reached c.args.job.now c.args.limit c.args.shape (world_of c.in_ok-schedule.schedule) c.in_ok-schedule.ensures.world
