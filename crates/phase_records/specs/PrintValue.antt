-- A value that a task printed, without where its path lies in memory (own).
use Rattle.std.specs.Prelude.{ℕ, ℤ, List}

pub record PrintValue : Type 0 where
  pub step : ℕ
  pub path : List ℕ
  pub value : ℤ
