use Rattle.job_laws.proofs.Answered.{next_steps_are_answered}
use Rattle.job_laws.proofs.reached.next_steps_are_answered.Goals as goal

pub returns : goal.returns
returns c = next_steps_are_answered
