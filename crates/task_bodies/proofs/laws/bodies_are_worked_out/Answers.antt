use Rattle.task_bodies.proofs.Worked.{bodies_are_worked_out}
use Rattle.task_bodies.proofs.laws.bodies_are_worked_out.Goals as goal

pub returns : goal.returns
returns c = bodies_are_worked_out
