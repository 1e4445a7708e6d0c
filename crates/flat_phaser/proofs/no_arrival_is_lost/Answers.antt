use Rattle.flat_phaser.proofs.Runs.{lost_law}
use Rattle.flat_phaser.proofs.no_arrival_is_lost.Goals as goal

pub returns : goal.returns
returns c = lost_law
