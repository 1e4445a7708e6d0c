use Rattle.tier_laws.proofs.Sixteen.{sixteen_steps_are_enough}
use Rattle.tier_laws.proofs.answers.sixteen_steps_are_enough.Goals as goal

pub returns : goal.returns
returns c = sixteen_steps_are_enough
