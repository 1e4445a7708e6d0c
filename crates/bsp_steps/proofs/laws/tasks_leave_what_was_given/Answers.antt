use Rattle.bsp_steps.proofs.TaskLaws.{leave_what_was_given}
use Rattle.bsp_steps.proofs.laws.tasks_leave_what_was_given.Goals as goal

pub returns : goal.returns
returns c = leave_what_was_given
