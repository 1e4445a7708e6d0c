use Rattle.std.proofs.Common.{arith}
use Rattle.std.proofs.lemmas.Grind.{common_steps}
use Rattle.job_reader.proofs.push.push_expr.Goals as goal

pub returns-in_ok-push_spaced-in-Two-2 : goal.returns-in_ok-push_spaced-in-Two-2
returns-in_ok-push_spaced-in-Two-2 = grind (arith, common_steps)
