use Rattle.std.proofs.Common.{arith}
use Rattle.std.proofs.lemmas.Grind.{common_steps}
use Rattle.job_reader.proofs.write.push_names.Goals as goal

pub loop-name-preserved : goal.loop-name-preserved
loop-name-preserved = grind (arith, common_steps)
