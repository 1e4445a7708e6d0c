use Rattle.phaser_one.proofs.LawProofs.{moves_by_one}
use Rattle.phaser_one.proofs.laws.phase_moves_by_one.Goals as goal

pub returns : goal.returns
returns c = moves_by_one
