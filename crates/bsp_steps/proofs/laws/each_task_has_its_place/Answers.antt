use Rattle.bsp_steps.proofs.TaskLaws.{has_its_place}
use Rattle.bsp_steps.proofs.laws.each_task_has_its_place.Goals as goal

pub returns : goal.returns
returns c = has_its_place
