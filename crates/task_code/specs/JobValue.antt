-- A job apart from its place in memory.
use Rattle.std.specs.Prelude.{ℕ, ℤ, List, Vec}
use Rattle.std.specs.declared.alloc.Global.{Global}
use Rattle.task_code.specs.BodyValue.{BodyValue}
use Rattle.task_code.specs.declared.job.Start.{Start}

pub record JobValue : Type 0 where
  pub format : ℕ
  pub arrays : List (List ℕ × List ℤ)
  pub bodies : List BodyValue
  pub starts : List Start

abbrev pub job_value : ℕ → List (List ℕ × List ℤ) → Vec BodyValue Global → Vec Start Global → JobValue
job_value format arrays bodies starts = record { format = format; arrays = arrays; bodies = bodies.items; starts = starts.items }
