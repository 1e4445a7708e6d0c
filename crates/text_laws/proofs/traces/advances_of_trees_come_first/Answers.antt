use Rattle.text_laws.proofs.TreeAdvances.{trees-advances-first}
use Rattle.text_laws.proofs.traces.advances_of_trees_come_first.Goals as goal

pub returns : goal.returns
returns c = trees-advances-first
