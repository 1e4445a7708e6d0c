use Rattle.flat_phaser.proofs.Alikeness.{alike_stays}
use Rattle.flat_phaser.proofs.alike_stays_alike.Goals as goal

pub returns : goal.returns
returns c = alike_stays
