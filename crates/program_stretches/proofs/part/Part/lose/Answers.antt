use Rattle.std.proofs.Common.{arith}
use Rattle.std.proofs.lemmas.Grind.{common_steps}
use Rattle.program_stretches.proofs.part.Part.lose.Goals as goal

pub returns : goal.returns
returns = grind (arith, common_steps)
