use Rattle.phaser_one.proofs.LawProofs.{not_all}
use Rattle.phaser_one.proofs.laws.not_all_arrived.Goals as goal

pub returns : goal.returns
returns c = not_all
