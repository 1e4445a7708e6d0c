-- Reading a text part by part, up to its first refusal (own).
use Rattle.std.specs.Prelude.{ℕ, Option, None, Some, Result, Ok, Err}
use Rattle.text_lines.specs.declared.refusal.Code.{Code}
use Rattle.text_lines.specs.declared.refusal.Code.TheVariants.{BadByte}
use Rattle.text_lines.specs.declared.refusal.Refusal.{Refusal}

-- what is read next, if nothing was refused before
infixl 10 ◌>>=◌
abbrev pub ◌>>=◌ : {A B E : Type 0} → Result A E → (A → Result B E) → Result B E
(Ok x) >>= f = f x
(Err e) >>= f = Err e

-- a refusal of this line
abbrev pub refused : {A : Type 0} → ℕ → Code → Result A Refusal
refused line code = Err (record { line = line; code = code })

abbrev pub at : {A : Type 0} → ℕ → Result A Code → Result A Refusal
at line (Ok x) = Ok x
at line (Err code) = refused line code

-- a byte that isn't allowed counts before what is read
abbrev pub unless_bad : {A : Type 0} → Option ℕ → Result A Refusal → Result A Refusal
unless_bad None read = read
unless_bad (Some line) read = refused line BadByte
