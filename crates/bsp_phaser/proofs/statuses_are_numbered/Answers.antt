use Rattle.std.proofs.Common.{refl}
use Rattle.bsp_phaser.proofs.statuses_are_numbered.Goals as goal

pub returns : goal.returns
returns c = record { done = λ phase. refl; waiting = refl; too_many = refl; full = refl; nobody_unarrived = refl; negative = refl }
