use Rattle.flat_phaser.proofs.Coming.{last_law}
use Rattle.flat_phaser.proofs.the_last_brings_the_advance.Goals as goal

pub returns : goal.returns
returns c = last_law
