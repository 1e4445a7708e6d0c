-- What a job leaves, without where it lies in memory (own).
use Rattle.std.specs.Prelude.{ℕ, ℤ, List}
use Rattle.phase_records.specs.declared.record.PhaseRecord.{PhaseRecord}
use Rattle.phase_records.specs.PrintValue.{PrintValue}
use Rattle.phase_records.specs.Status.{Status}

pub record ReportValue : Type 0 where
  pub prints : List PrintValue
  pub records : List PhaseRecord
  pub arrays : List (List ℕ × List ℤ)
  pub status : Status
