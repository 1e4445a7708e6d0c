use Rattle.flat_phaser.proofs.Runs.{everyone_law}
use Rattle.flat_phaser.proofs.everyone_is_each_owner.Goals as goal

pub returns : goal.returns
returns c = everyone_law
