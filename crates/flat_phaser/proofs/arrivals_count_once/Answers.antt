use Rattle.flat_phaser.proofs.Runs.{once_law}
use Rattle.flat_phaser.proofs.arrivals_count_once.Goals as goal

pub returns : goal.returns
returns c = once_law
