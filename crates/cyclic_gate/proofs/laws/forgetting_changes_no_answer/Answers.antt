use Rattle.cyclic_gate.proofs.Forgetting.{forgetting_changes_no_answer}
use Rattle.cyclic_gate.proofs.laws.forgetting_changes_no_answer.Goals as goal

pub returns : goal.returns
returns c = forgetting_changes_no_answer
