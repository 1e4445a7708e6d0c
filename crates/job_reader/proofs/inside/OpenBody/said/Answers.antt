use Rattle.std.proofs.Common.{arith}
use Rattle.std.proofs.lemmas.Grind.{common_steps}
use Rattle.job_reader.proofs.inside.OpenBody.said.Goals as goal

pub returns-clause-said : goal.returns-clause-said
returns-clause-said = grind (arith, common_steps)

pub returns-then-is_over-clause-said : goal.returns-then-is_over-clause-said
returns-then-is_over-clause-said = grind (arith, common_steps)
