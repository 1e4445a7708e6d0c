use Rattle.flat_phaser.proofs.Coming.{due_law}
use Rattle.flat_phaser.proofs.due_tells_everyone.Goals as goal

pub returns : goal.returns
returns c = due_law
