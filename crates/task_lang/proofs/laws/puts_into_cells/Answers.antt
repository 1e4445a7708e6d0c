use Rattle.task_lang.proofs.AllSegments.{puts-into-cells}
use Rattle.task_lang.proofs.laws.puts_into_cells.Goals as goal

pub returns : goal.returns
returns c = puts-into-cells
