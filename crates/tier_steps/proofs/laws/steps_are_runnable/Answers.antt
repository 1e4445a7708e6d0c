use Rattle.tier_steps.proofs.Known.{steps_are_runnable}
use Rattle.tier_steps.proofs.laws.steps_are_runnable.Goals as goal

pub returns : goal.returns
returns c = steps_are_runnable
