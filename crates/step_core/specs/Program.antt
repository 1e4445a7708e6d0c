-- What supersteps read of a job (own).
use Rattle.std.specs.Prelude.{ℕ, ℤ, List}
use Rattle.task_code.specs.declared.job.Start.{Start}
use Rattle.task_code.specs.JobValue.{JobValue}
use Rattle.task_lang.specs.Meaning.{Plan}
use Rattle.task_lang.specs.Views.{plans}

-- the arrays as the job begins, what its bodies say, and its start lines
pub record Program : Type 0 where
  pub arrays : List (List ℕ × List ℤ)
  pub plans : List Plan
  pub starts : List Start

abbrev pub program_of : JobValue → Program
program_of job = record { arrays = job.arrays; plans = plans job.bodies; starts = job.starts }
