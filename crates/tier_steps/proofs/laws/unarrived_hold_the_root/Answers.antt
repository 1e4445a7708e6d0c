use Rattle.tier_steps.proofs.Ready.{unarrived_hold_the_root}
use Rattle.tier_steps.proofs.laws.unarrived_hold_the_root.Goals as goal

pub returns : goal.returns
returns c = unarrived_hold_the_root
