use Rattle.std.proofs.Common.{arith}
use Rattle.std.proofs.lemmas.Grind.{common_steps}
use Rattle.programs.proofs.steps.Steps.into_report.Goals as goal

pub returns-clause-tasks : goal.returns-clause-tasks
returns-clause-tasks = grind (arith, common_steps)
