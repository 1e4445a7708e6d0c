use Rattle.bsp_phaser.proofs.Running.{one_run}
use Rattle.bsp_phaser.proofs.exchanges_are_one_run.Goals as goal

pub returns : goal.returns
returns c = one_run
