use Rattle.task_lang.proofs.AllSegments.{stays-the-same-task}
use Rattle.task_lang.proofs.laws.stays_the_same_task.Goals as goal

pub returns : goal.returns
returns c = stays-the-same-task
