use Rattle.task_bodies.proofs.Worked.{kernels_are_worked_out}
use Rattle.task_bodies.proofs.laws.kernels_are_worked_out.Goals as goal

pub returns : goal.returns
returns c = kernels_are_worked_out
