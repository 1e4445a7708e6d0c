-- What some supersteps printed and recorded (own).
use Rattle.std.specs.Prelude.{ℕ, List}
use Rattle.phase_records.specs.PrintValue.{PrintValue}
use Rattle.phase_records.specs.declared.record.PhaseRecord.{PhaseRecord}

-- of the superstep of the one number, and of those below the other
pub record LinesValue : Type 0 where
  pub first : ℕ
  pub next : ℕ
  pub prints : List PrintValue
  pub records : List PhaseRecord
