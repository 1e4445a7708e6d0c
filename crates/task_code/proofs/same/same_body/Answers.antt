use Rattle.std.proofs.Common.{arith}
use Rattle.std.proofs.lemmas.Grind.{common_steps}
use Rattle.task_code.proofs.same.same_body.Goals as goal

pub returns : goal.returns
returns = grind (arith, common_steps)
