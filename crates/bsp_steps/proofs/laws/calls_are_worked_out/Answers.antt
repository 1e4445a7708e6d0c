use Rattle.bsp_steps.proofs.Worked as worked
use Rattle.bsp_steps.proofs.laws.calls_are_worked_out.Goals as goal

pub returns : goal.returns
returns c = worked.calls_are_worked_out
