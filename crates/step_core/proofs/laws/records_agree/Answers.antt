use Rattle.step_core.proofs.LawProofs.{records-agree}
use Rattle.step_core.proofs.laws.records_agree.Goals as goal

pub returns : goal.returns
returns c = records-agree
