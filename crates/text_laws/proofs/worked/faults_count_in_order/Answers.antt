use Rattle.std.proofs.Common.{refl}
use Rattle.text_laws.proofs.worked.faults_count_in_order.Goals as goal

pub returns : goal.returns
returns c = refl
