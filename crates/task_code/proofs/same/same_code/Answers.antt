use Rattle.std.proofs.Common.{arith}
use Rattle.std.proofs.lemmas.Grind.{common_steps}
use Rattle.task_code.proofs.same.same_code.Goals as goal

pub loop-i-preserved : goal.loop-i-preserved
loop-i-preserved = grind (arith, common_steps)

pub returns-then-not-same_line : goal.returns-then-not-same_line
returns-then-not-same_line = grind (arith, common_steps)
