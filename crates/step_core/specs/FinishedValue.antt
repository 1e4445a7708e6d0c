-- What a superstep left: its prints and its record.
use Rattle.std.specs.Prelude.{List}
use Rattle.phase_records.specs.PrintValue.{PrintValue}
use Rattle.phase_records.specs.declared.record.PhaseRecord.{PhaseRecord}

pub record FinishedValue : Type 0 where
  pub prints : List PrintValue
  pub counts : PhaseRecord
