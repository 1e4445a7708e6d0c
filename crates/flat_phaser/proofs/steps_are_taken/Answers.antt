use Rattle.flat_phaser.proofs.Alikeness.{steps_taken}
use Rattle.flat_phaser.proofs.steps_are_taken.Goals as goal

pub returns : goal.returns
returns c = steps_taken
