use Rattle.phaser_one.proofs.WordProofs.{asks_no_plan}
use Rattle.phaser_one.proofs.laws.only_arrivals_ask_the_plan.Goals as goal

pub returns : goal.returns
returns c = asks_no_plan
