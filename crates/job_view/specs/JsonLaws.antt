-- What holds of reports as JSON (own).
use Rattle.std.specs.Prelude.{◌≡◌, ◌<◌, ◌^◌, ℕ, ℤ, pos, negsuc, List, [], ◌∷◌, Some}
use Rattle.json.specs.Json.{document}
use Rattle.phase_records.specs.declared.record.PhaseRecord.{PhaseRecord}
use Rattle.phase_records.specs.PrintValue.{PrintValue}
use Rattle.phase_records.specs.ReportValue.{ReportValue}
use Rattle.phase_records.specs.Status.{Status, Ended, Fault, Limit}
use Rattle.job_view.specs.ReportJson.{json_of, object_text}

-- a number of 64 bits, without and with a sign
abbrev pub IsShort : ℕ → Type 0
IsShort n = n < 2 ^ 64

abbrev pub IsShortInteger : ℤ → Type 0
IsShortInteger (pos n) = n < 2 ^ 63
IsShortInteger (negsuc n) = n < 2 ^ 63

abbrev pub Each : {A : Type 0} → (A → Type 0) → List A → Type 0
Each P [] = Unit {0}
Each P (x ∷ xs) = P x × Each P xs

abbrev pub IsShortRecord : PhaseRecord → Type 0
IsShortRecord r = IsShort r.phase × IsShort r.parties × IsShort r.left × IsShort r.spawned

abbrev pub IsShortPrint : PrintValue → Type 0
IsShortPrint p = IsShort p.step × Each IsShort p.path × IsShortInteger p.value

abbrev pub IsShortArray : List ℕ × List ℤ → Type 0
IsShortArray a = Each IsShortInteger a.1

abbrev pub IsShortStatus : Status → Type 0
IsShortStatus (Ended steps) = IsShort steps
IsShortStatus (Fault code step path) = IsShort code × IsShort step × Each IsShort path
IsShortStatus (Limit steps) = IsShort steps

-- a report whose numbers have 64 bits, as the type of reports keeps
pub record HasShortNumbers (r : ReportValue) : Type 0 where
  pub records : Each IsShortRecord r.records
  pub prints : Each IsShortPrint r.prints
  pub arrays : Each IsShortArray r.arrays
  pub status : IsShortStatus r.status

-- The grammar of RFC 8259 reads the object's text as the object.
abbrev pub EachReportIsReadBack : Type 0
EachReportIsReadBack = (r : ReportValue) → HasShortNumbers r → document (object_text r) ≡ Some (json_of r)
