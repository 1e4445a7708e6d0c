use Rattle.std.proofs.Common.{arith}
use Rattle.std.proofs.lemmas.Grind.{common_steps}
use Rattle.task_code.proofs.job.Job.same_as.Goals as goal

pub returns : goal.returns
returns = grind (arith, common_steps)

pub returns-then-not-same_bodies : goal.returns-then-not-same_bodies
returns-then-not-same_bodies = grind (arith, common_steps)
