-- A job as one of format 2 (own): its arrays, its bodies with their locals in their order, and its start lines stay.
use Rattle.task_code.specs.JobValue.{JobValue}
use Rattle.job_reader.specs.Trees.{JobTree}

abbrev pub upgraded : JobValue → JobValue
upgraded j = record j { format = 2 }

abbrev pub upgraded_tree : JobTree → JobTree
upgraded_tree j = record j { format = 2 }
