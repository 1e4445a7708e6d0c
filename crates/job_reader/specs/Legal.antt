-- Which jobs there are (own): what the types of a body and of a job keep, said of statement trees.
use Rattle.std.specs.Prelude.{map}
use Rattle.task_code.specs.Tree.{flat}
use Rattle.task_code.specs.BodyValue.{BodyValue}
use Rattle.task_code.specs.JobValue.{JobValue}
use Rattle.task_code.specs.Rules.{IsJob}
use Rattle.job_reader.specs.Trees.{BodyTree, JobTree}

-- with the flat code of its statements
abbrev pub flat_body : BodyTree → BodyValue
flat_body b = record { name = b.name; locals = b.locals; code = flat b.block }

abbrev pub flat_job : JobTree → JobValue
flat_job j = record { format = j.format; arrays = j.arrays; bodies = map flat_body j.bodies; starts = j.starts }

-- A job is of format 1 or 2; in one of format 1 no line is an add, and the locals of a body are in the order of first
-- mention. It has at most 16 arrays of 1 to 4096 cells, 64 bodies, each with at most 32 locals, 1024 statements and 16
-- lines open at once, and 4096 start lines. The names of its arrays are distinct, and so are those of its bodies. What
-- its lines name exists, and its numbers are of 64 signed bits.
abbrev pub IsJobTree : JobTree → Type 0
IsJobTree j = IsJob (flat_job j)
