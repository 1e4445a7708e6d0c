use Rattle.std.proofs.Common.{arith}
use Rattle.std.proofs.lemmas.Grind.{common_steps}
use Rattle.task_code.proofs.job.is_job.Goals as goal

pub returns-else-are_args : goal.returns-else-are_args
returns-else-are_args = grind (arith, common_steps)

pub returns-then-are_args : goal.returns-then-are_args
returns-then-are_args = grind (arith, common_steps)

pub returns-then-not-are_within : goal.returns-then-not-are_within
returns-then-not-are_within = grind (arith, common_steps)
