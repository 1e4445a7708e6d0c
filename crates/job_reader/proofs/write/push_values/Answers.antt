use Rattle.std.proofs.Common.{arith}
use Rattle.std.proofs.lemmas.Grind.{common_steps}
use Rattle.job_reader.proofs.write.push_values.Goals as goal

pub loop-value-preserved : goal.loop-value-preserved
loop-value-preserved = grind (arith, common_steps)
