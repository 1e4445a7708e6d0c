use Rattle.tier_core.proofs.Turns.{turns_are_steps}
use Rattle.tier_core.proofs.turn_laws.turns_are_steps.Goals as goal

pub returns : goal.returns
returns c = turns_are_steps
