use Rattle.std.proofs.Common.{arith}
use Rattle.std.proofs.lemmas.Grind.{common_steps}
use Rattle.programs.proofs.blame.push_prints.Goals as goal

pub loop-value-preserved : goal.loop-value-preserved
loop-value-preserved = grind (arith, common_steps)
