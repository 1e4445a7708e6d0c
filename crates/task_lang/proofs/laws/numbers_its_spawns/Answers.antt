use Rattle.task_lang.proofs.AllSegments.{numbers-its-spawns}
use Rattle.task_lang.proofs.laws.numbers_its_spawns.Goals as goal

pub returns : goal.returns
returns c = numbers-its-spawns
