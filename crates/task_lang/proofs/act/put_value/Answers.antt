use Rattle.std.proofs.Common.{arith}
use Rattle.std.proofs.lemmas.Grind.{common_steps}
use Rattle.task_lang.proofs.act.put_value.Goals as goal

pub returns-clause-same : goal.returns-clause-same
returns-clause-same = grind (arith, common_steps)
