-- The lines on standard error, worked out: each is written down, and not said by any rule (own).
use Rattle.std.specs.Prelude.{◌≡◌, ℕ, List, Option, codes}
use Rattle.std.specs.Io.KnownBytes.{Appends}
use Rattle.text_lines.specs.declared.refusal.Code.TheVariants.{TooLong, BadName, Reserved}
use Rattle.bsp_cli.specs.Texts.{Says, refusal_line, worker_line, fault_text, fault_status}
use Rattle.bsp_cli.specs.declared.fault.RunFault.TheVariants.{Text, Read, Write, Memory, NotStarted, Internal}

-- this status has this line: if standard error didn't fail, just that was written to it
abbrev pub HasLine : ℕ → List ℕ → Type 0
HasLine status line = (old new : Option (List ℕ)) (failures : ℕ) → Says status old new failures failures → Appends old new line

-- The line of each status that has one, and the line and the status of each fault.
pub record LinesAreWorkedOut : Type 0 where
  pub command_line : HasLine 5 (codes "command line refused\n")
  pub memory : HasLine 6 (codes "out of memory\n")
  pub failure : HasLine 8 (codes "read or write failed\n")
  pub internal : HasLine 9 (codes "internal\n")
  pub refused : refusal_line (record { line = 12; code = BadName }) ≡ codes "refused line 12 code 5\n"
  pub too_long : refusal_line (record { line = 1; code = TooLong }) ≡ codes "refused line 1 code 1\n"
  pub worker : worker_line 63 ≡ codes "worker 63 not started\n"
  pub text_fault : (fault_text (Text (record { line = 3; code = Reserved })) ≡ codes "refused line 3 code 14\n")
      × (fault_status (Text (record { line = 3; code = Reserved })) ≡ 4)
  pub memory_fault : (fault_text Memory ≡ codes "out of memory\n") × (fault_status Memory ≡ 6)
  pub worker_fault : (fault_text (NotStarted 0) ≡ codes "worker 0 not started\n") × (fault_status (NotStarted 0) ≡ 7)
  pub read_fault : (fault_text Read ≡ codes "read or write failed\n") × (fault_status Read ≡ 8)
  pub write_fault : (fault_text Write ≡ codes "read or write failed\n") × (fault_status Write ≡ 8)
  pub internal_fault : (fault_text Internal ≡ codes "internal\n") × (fault_status Internal ≡ 9)
