use Rattle.std.proofs.Common.{arith}
use Rattle.std.proofs.lemmas.Grind.{common_steps}
use Rattle.job_reader.proofs.so_far.SoFar.push_array.Goals as goal

pub returns : goal.returns
returns = grind (arith, common_steps)
