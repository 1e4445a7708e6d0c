-- What a worker has delivered in a superstep (own).
use Rattle.std.specs.Prelude.{ℕ, List}
use Rattle.program_stretches.specs.StretchesValue.{StretchValue}

-- the superstep, the stretches that were delivered in it, and of how many of them the members are back
pub record OutboxValue (Q S : Type 0) : Type 0 where
  pub step : ℕ
  pub done : List (StretchValue Q S)
  pub back : ℕ
