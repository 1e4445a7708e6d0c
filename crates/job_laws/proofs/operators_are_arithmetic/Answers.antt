use Rattle.job_laws.proofs.Operators.{arithmetic}
use Rattle.job_laws.proofs.operators_are_arithmetic.Goals as goal

pub returns : goal.returns
returns c = arithmetic
