use Rattle.std.proofs.Common.{arith}
use Rattle.std.proofs.lemmas.Grind.{common_steps}
use Rattle.programs.proofs.deeds.Changes.split_first.Goals as goal

pub returns : goal.returns
returns = grind (arith, common_steps)
