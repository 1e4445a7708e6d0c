use Rattle.bsp_phaser.proofs.Passing.{passes}
use Rattle.bsp_phaser.proofs.no_phase_passes_early.Goals as goal

pub returns : goal.returns
returns c = passes
