use Rattle.bsp_phaser.proofs.Working.{run_is_worked_out}
use Rattle.bsp_phaser.proofs.the_run_is_worked_out.Goals as goal

pub returns : goal.returns
returns c = run_is_worked_out
