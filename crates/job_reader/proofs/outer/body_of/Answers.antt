use Rattle.std.proofs.Common.{arith}
use Rattle.std.proofs.lemmas.Grind.{common_steps}
use Rattle.job_reader.proofs.outer.body_of.Goals as goal

pub returns : goal.returns
returns = grind (arith, common_steps)

pub returns-in_err-both : goal.returns-in_err-both
returns-in_err-both = grind (arith, common_steps)
