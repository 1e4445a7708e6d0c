-- The lines on standard error (own).
use Rattle.std.specs.Prelude.{◌≡◌, ◌≢◌, ℕ, ◌+◌, List, [], ◌++◌, Option, codes, decimal}
use Rattle.std.specs.Io.KnownBytes.{Appends}
use Rattle.text_lines.specs.declared.refusal.Refusal.{Refusal}
use Rattle.text_lines.specs.Refusals.{code_number}
use Rattle.bsp_cli.specs.declared.fault.RunFault.{RunFault}
use Rattle.bsp_cli.specs.declared.fault.RunFault.TheVariants.{Text, Read, Write, Memory, NotStarted, Internal}

abbrev pub refusal_line : Refusal → List ℕ
refusal_line r = (codes "refused line " ++ decimal r.line) ++ (codes " code " ++ decimal (code_number r.code)) ++ codes "\n"

abbrev pub worker_line : ℕ → List ℕ
worker_line k = (codes "worker " ++ decimal k) ++ codes " not started\n"

-- a writer gets this text, unless it fails
abbrev pub Tells : Option (List ℕ) → Option (List ℕ) → ℕ → ℕ → List ℕ → Type 0
Tells old new failures failures_after text = failures_after ≡ failures → Appends old new text

-- what standard error got if the status alone says which line
pub record Says (status : ℕ) (old new : Option (List ℕ)) (failures failures_after : ℕ) : Type 0 where
  pub command_line : status ≡ 5 → Tells old new failures failures_after (codes "command line refused\n")
  pub memory : status ≡ 6 → Tells old new failures failures_after (codes "out of memory\n")
  pub failure : status ≡ 8 → Tells old new failures failures_after (codes "read or write failed\n")
  pub internal : status ≡ 9 → Tells old new failures failures_after (codes "internal\n")

-- status 8 is one failure of the reader or of the writer, and any other none
pub record CountsFailures (status read read_after written written_after : ℕ) : Type 0 where
  pub failed : status ≡ 8 → read_after + written_after ≡ read + written + 1
  pub worked : status ≢ 8 → (read_after ≡ read) × (written_after ≡ written)

-- a text that isn't empty was written
abbrev pub WritesSome : Option (List ℕ) → Option (List ℕ) → Type 0
WritesSome old new = (text : List ℕ) × (text ≢ []) × Appends old new text

-- the line and the status of a command that did not end
abbrev pub fault_text : RunFault → List ℕ
fault_text (Text r) = refusal_line r
fault_text Memory = codes "out of memory\n"
fault_text Read = codes "read or write failed\n"
fault_text Write = codes "read or write failed\n"
fault_text (NotStarted k) = worker_line k
fault_text Internal = codes "internal\n"

abbrev pub fault_status : RunFault → ℕ
fault_status (Text r) = 4
fault_status Memory = 6
fault_status Read = 8
fault_status Write = 8
fault_status (NotStarted k) = 7
fault_status Internal = 9
