use Rattle.std.proofs.Common.{arith}
use Rattle.std.proofs.lemmas.Grind.{common_steps}
use Rattle.program_stretches.proofs.part.Part.take_next.Goals as goal

pub returns-clause-next : goal.returns-clause-next
returns-clause-next = grind (arith, common_steps)
