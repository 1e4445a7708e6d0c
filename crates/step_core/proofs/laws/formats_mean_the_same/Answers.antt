use Rattle.step_core.proofs.LawProofs.{formats-mean-the-same}
use Rattle.step_core.proofs.laws.formats_mean_the_same.Goals as goal

pub returns : goal.returns
returns c = formats-mean-the-same
