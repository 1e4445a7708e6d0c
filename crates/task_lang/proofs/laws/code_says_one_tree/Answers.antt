use Rattle.task_lang.proofs.AllSegments.{code-says-one-tree}
use Rattle.task_lang.proofs.laws.code_says_one_tree.Goals as goal

pub returns : goal.returns
returns c = code-says-one-tree
