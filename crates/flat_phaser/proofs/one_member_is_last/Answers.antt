use Rattle.flat_phaser.proofs.Coming.{one_is_last}
use Rattle.flat_phaser.proofs.one_member_is_last.Goals as goal

pub returns : goal.returns
returns c = one_is_last
