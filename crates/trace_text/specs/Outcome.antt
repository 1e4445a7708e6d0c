-- What a run did to its devices.
use Rattle.std.specs.Prelude.{◌≡◌, ◌⊎◌, ℕ, ◌+◌, List, ◌++◌, Option, IfSome, Result, Ok, Err}
use Rattle.std.specs.Io.KnownBytes.{Appends, Keeps}
use Rattle.trace_text.specs.declared.fault.TraceFault.{TraceFault}
use Rattle.trace_text.specs.declared.fault.TraceFault.TheVariants.{Text, Read, Write, Memory}
use Rattle.phase_records.specs.Device.{AppendsBeginning}
use Rattle.text_lines.specs.declared.refusal.Refusal.{Refusal}
use Rattle.trace_text.specs.Trace.{Asked, asked_of}
use Rattle.trace_text.specs.Answers.{output_of}

-- the writer failed once if the fault is Write, and else not at all
abbrev pub WriteCause : {T : Type 0} → ℕ → ℕ → Result T TraceFault → Type 0
WriteCause old new (Err Write) = new ≡ old + 1
WriteCause old new _ = new ≡ old

-- the reader failed once if the fault is Read, and else not at all
abbrev pub ReadsCause : {T : Type 0} → ℕ → ℕ → Result T TraceFault → Type 0
ReadsCause old new (Err Read) = new ≡ old + 1
ReadsCause old new _ = new ≡ old

-- a run writes its text, or a beginning of it
abbrev pub Writes : Option (List ℕ) → Option (List ℕ) → Result (Unit {0}) TraceFault → List ℕ → Type 0
Writes old new (Ok x) text = Appends old new text
Writes old new (Err Write) text = AppendsBeginning old new text
Writes old new (Err Memory) text = AppendsBeginning old new text
Writes old new (Err Read) text = ⊥
Writes old new (Err (Text r)) text = ⊥

-- What waits to be written and a text after it: a beginning went out, and the rest waits; or less of it went out, and
-- no more will.
abbrev pub Moves : Option (List ℕ) → Option (List ℕ) → List ℕ → List ℕ → Result (Unit {0}) TraceFault → List ℕ → Type 0
Moves old new waited waits (Ok x) text = (front : List ℕ) × (waited ++ text ≡ front ++ waits) × Appends old new front
Moves old new waited waits (Err Write) text = AppendsBeginning old new (waited ++ text)
Moves old new waited waits (Err Memory) text = AppendsBeginning old new (waited ++ text)
Moves old new waited waits (Err Read) text = ⊥
Moves old new waited waits (Err (Text r)) text = ⊥

-- the input asks for something, and its answers were written, or a beginning of them
abbrev pub WritesAnswers : List ℕ → Option (List ℕ) → Option (List ℕ) → Type 0
WritesAnswers input old new = (asked : Asked) × (asked_of input ≡ Ok asked) × Appends old new (output_of asked)

abbrev pub WritesBeginning : List ℕ → Option (List ℕ) → Option (List ℕ) → Type 0
WritesBeginning input old new = (asked : Asked) × (asked_of input ≡ Ok asked) × AppendsBeginning old new (output_of asked)

-- What a trace does: Ok writes the answers, a refused text is the first refusal and writes nothing.
abbrev pub Traces : Option (List ℕ) → Option (List ℕ) → Option (List ℕ) → Result (Unit {0}) TraceFault → Type 0
Traces input old new (Ok x) = IfSome input (λ bytes. WritesAnswers bytes old new)
Traces input old new (Err (Text refusal)) = IfSome input (λ bytes. asked_of bytes ≡ Err refusal) × Keeps old new
Traces input old new (Err Read) = Keeps old new
Traces input old new (Err Write) = IfSome input (λ bytes. WritesBeginning bytes old new)
Traces input old new (Err Memory) = Keeps old new ⊎ IfSome input (λ bytes. WritesBeginning bytes old new)

-- the input is refused
abbrev pub RefusesText : Option (List ℕ) → Type 0
RefusesText input = IfSome input (λ bytes. (refusal : Refusal) × (asked_of bytes ≡ Err refusal))
