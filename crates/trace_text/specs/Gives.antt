-- What a function returned against what reading gives.
use Rattle.std.specs.Prelude.{◌≡◌, ⊤, Result, Ok, Err}
use Rattle.trace_text.specs.declared.fault.TraceFault.{TraceFault}
use Rattle.trace_text.specs.declared.fault.TraceFault.TheVariants.{Text, Read, Write, Memory}
use Rattle.text_lines.specs.declared.refusal.Refusal.{Refusal}

-- the refusal is that of the reading; memory may run out, and no device is asked
abbrev pub Fails : {Y : Type 0} → TraceFault → Result Y Refusal → Type 0
Fails (Text refusal) read = read ≡ Err refusal
Fails Read read = ⊥
Fails Write read = ⊥
Fails Memory read = ⊤

-- what was returned, by view, is what reading gives, unless memory ran out
abbrev pub Gives : {X Y : Type 0} → (X → Y) → Result X TraceFault → Result Y Refusal → Type 0
Gives view (Ok x) read = read ≡ Ok (view x)
Gives view (Err fault) read = Fails fault read
