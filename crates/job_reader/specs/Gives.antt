-- What a function returned against what reading gives.
use Rattle.std.specs.Prelude.{◌≡◌, ℕ, ⊤, Result, Ok, Err}
use Rattle.text_lines.specs.declared.refusal.Code.{Code}
use Rattle.text_lines.specs.declared.refusal.Refusal.{Refusal}
use Rattle.job_reader.specs.Faults.{earlier}
use Rattle.job_reader.specs.declared.fault.LineFault.{LineFault}
use Rattle.job_reader.specs.declared.fault.LineFault.TheVariants as line_fault
use Rattle.job_reader.specs.declared.fault.ReadJobFault.{ReadJobFault}
use Rattle.job_reader.specs.declared.fault.ReadJobFault.TheVariants as job_fault

-- of a line: what was returned fits what reading gives, unless memory ran out
abbrev pub LineFails : {Y : Type 0} → LineFault → Result Y Code → Type 0
LineFails (line_fault.Refused code) read = read ≡ Err code
LineFails line_fault.Memory read = ⊤

abbrev pub FitsOk : {Y : Type 0} → (Y → Type 0) → Result Y Code → Type 0
FitsOk fits (Ok y) = fits y
FitsOk fits (Err code) = ⊥

abbrev pub LineGives : {X Y : Type 0} → (X → Y → Type 0) → Result X LineFault → Result Y Code → Type 0
LineGives fits (Ok x) read = FitsOk (fits x) read
LineGives fits (Err fault) read = LineFails fault read

-- of a line: what was returned, by view, is what reading gives, unless memory ran out
abbrev pub LineSays : {X Y : Type 0} → (X → Y) → Result X LineFault → Result Y Code → Type 0
LineSays view (Ok x) read = read ≡ Ok (view x)
LineSays view (Err fault) read = LineFails fault read

-- two parts of a line; the second takes memory
abbrev pub joined : {A B : Type 0} → Result A Code → Result B LineFault → Result (A × B) LineFault
joined a (Err line_fault.Memory) = Err line_fault.Memory
joined (Ok a) (Ok b) = Ok (a, b)
joined (Ok a) (Err (line_fault.Refused d)) = Err (line_fault.Refused d)
joined (Err c) (Ok b) = Err (line_fault.Refused c)
joined (Err c) (Err (line_fault.Refused d)) = Err (line_fault.Refused (earlier c d))

-- the fault of a text by the fault of its line of this number
abbrev pub fault_at : ℕ → LineFault → ReadJobFault
fault_at line (line_fault.Refused code) = job_fault.Text (record { line = line; code = code })
fault_at line line_fault.Memory = job_fault.Memory

-- of a text: what was returned, by view, is what reading gives, unless memory ran out
abbrev pub Fails : {Y : Type 0} → ReadJobFault → Result Y Refusal → Type 0
Fails (job_fault.Text refusal) read = read ≡ Err refusal
Fails job_fault.Memory read = ⊤

abbrev pub Gives : {X Y : Type 0} → (X → Y) → Result X ReadJobFault → Result Y Refusal → Type 0
Gives view (Ok x) read = read ≡ Ok (view x)
Gives view (Err fault) read = Fails fault read
