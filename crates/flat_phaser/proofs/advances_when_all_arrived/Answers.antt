use Rattle.flat_phaser.proofs.Runs.{advances_law}
use Rattle.flat_phaser.proofs.advances_when_all_arrived.Goals as goal

pub returns : goal.returns
returns c = advances_law
