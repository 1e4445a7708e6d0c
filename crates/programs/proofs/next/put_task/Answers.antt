use Rattle.std.proofs.Common.{arith}
use Rattle.std.proofs.lemmas.Grind.{common_steps}
use Rattle.programs.proofs.next.put_task.Goals as goal

pub returns-clause-items : goal.returns-clause-items
returns-clause-items = grind (arith, common_steps)
