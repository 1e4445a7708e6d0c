use Rattle.std.proofs.Common.{arith}
use Rattle.std.proofs.lemmas.Grind.{common_steps}
use Rattle.program_stretches.proofs.part.Part.give_prints.Goals as goal

pub returns-clause-rest : goal.returns-clause-rest
returns-clause-rest = grind (arith, common_steps)
