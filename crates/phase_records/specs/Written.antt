-- What a call that writes a text leaves.
use Rattle.std.specs.Prelude.{◌≡◌, ℕ, ◌+◌, List, Option, Result, Ok, Err}
use Rattle.std.specs.Io.KnownBytes.{Appends, Keeps}
use Rattle.phase_records.specs.Device.{AppendsBeginning}
use Rattle.phase_records.specs.declared.report.WriteFault.{WriteFault}
use Rattle.phase_records.specs.declared.report.WriteFault.TheVariants.{Write, Memory}

-- the whole text went out; where the device failed, a beginning of it; and without memory nothing
abbrev pub WritesText : {T : Type 0} → Option (List ℕ) → Option (List ℕ) → Result T WriteFault → List ℕ → Type 0
WritesText old new (Ok x) text = Appends old new text
WritesText old new (Err Write) text = AppendsBeginning old new text
WritesText old new (Err Memory) text = Keeps old new

-- the count of failures rises where the device is blamed, and else stays
abbrev pub WriteCause : {T : Type 0} → ℕ → ℕ → Result T WriteFault → Type 0
WriteCause old new (Ok x) = new ≡ old
WriteCause old new (Err Write) = new ≡ old + 1
WriteCause old new (Err Memory) = new ≡ old
