use Rattle.phaser_one.proofs.PlanProofs.{plans_are_spelled_out}
use Rattle.phaser_one.proofs.laws.plans_are_spelled_out.Goals as goal

pub returns : goal.returns
returns c = plans_are_spelled_out
