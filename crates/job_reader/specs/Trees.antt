-- Jobs whose bodies are statement trees.
use Rattle.std.specs.Prelude.{ℕ, ℤ, List, map}
use Rattle.job_reader.specs.Words.{Word}
use Rattle.task_code.specs.Tree.{Block}
use Rattle.task_code.specs.Reading.{tree_of}
use Rattle.task_code.specs.BodyValue.{BodyValue}
use Rattle.task_code.specs.JobValue.{JobValue}
use Rattle.task_code.specs.declared.job.Start.{Start}

-- a body by its name, its locals and its statements
pub record BodyTree : Type 0 where
  pub name : Word
  pub locals : List Word
  pub block : Block

-- a job: its format, its arrays with their cells, its bodies and its start lines, each in declared order
pub record JobTree : Type 0 where
  pub format : ℕ
  pub arrays : List (Word × List ℤ)
  pub bodies : List BodyTree
  pub starts : List Start

abbrev pub body_tree : BodyValue → BodyTree
body_tree b = record { name = b.name; locals = b.locals; block = tree_of b.code }

-- a job without the flat code of its bodies
abbrev pub job_tree : JobValue → JobTree
job_tree j = record { format = j.format; arrays = j.arrays; bodies = map body_tree j.bodies; starts = j.starts }

abbrev pub array_names : JobTree → List Word
array_names j = map (λ a. a.0) j.arrays

abbrev pub body_names : JobTree → List Word
body_names j = map (λ b. b.name) j.bodies
