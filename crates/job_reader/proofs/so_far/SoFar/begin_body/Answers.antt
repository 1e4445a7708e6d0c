use Rattle.std.proofs.Common.{arith}
use Rattle.std.proofs.lemmas.Grind.{common_steps}
use Rattle.job_reader.proofs.so_far.SoFar.begin_body.Goals as goal

pub returns-clause-begun : goal.returns-clause-begun
returns-clause-begun = grind (arith, common_steps)

pub returns-then-len-ge-MOST_BODIES-clause-begun : goal.returns-then-len-ge-MOST_BODIES-clause-begun
returns-then-len-ge-MOST_BODIES-clause-begun = grind (arith, common_steps)
