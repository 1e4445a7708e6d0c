use Rattle.bsp_steps.proofs.WorkedBytes as worked
use Rattle.bsp_steps.proofs.laws.bytes_are_worked_out.Goals as goal

pub returns : goal.returns
returns c = worked.bytes_are_worked_out
