use Rattle.phaser_one.proofs.WordProofs.{refusals_leave}
use Rattle.phaser_one.proofs.laws.refusals_leave_all.Goals as goal

pub returns : goal.returns
returns c = refusals_leave
