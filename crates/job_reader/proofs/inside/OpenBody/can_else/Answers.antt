use Rattle.std.proofs.Common.{arith}
use Rattle.std.proofs.lemmas.Grind.{elements}
use Rattle.job_reader.proofs.inside.OpenBody.can_else.Goals as goal

pub returns-in_default-matches : goal.returns-in_default-matches
returns-in_default-matches = grind (arith, elements)
