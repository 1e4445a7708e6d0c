use Rattle.std.proofs.Common.{arith}
use Rattle.std.proofs.lemmas.Grind.{common_steps}
use Rattle.program_stretches.proofs.next.pull_back.Goals as goal

pub loop-last-preserved : goal.loop-last-preserved
loop-last-preserved = grind (arith, common_steps)
