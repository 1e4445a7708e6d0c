use Rattle.task_lang.proofs.AllSegments.{stays-within-its-budget}
use Rattle.task_lang.proofs.laws.stays_within_its_budget.Goals as goal

pub returns : goal.returns
returns c = stays-within-its-budget
