-- Names, numbers and indices as words (own).
use Rattle.std.specs.Prelude.{ℕ, ◌+◌, ◌==◌, ◌||◌, if◌then◌else◌, List, [], ◌∷◌, ◌++◌, codes, Option, Some, None, Result, Ok, Err, slice_get, unwrap_or, ℤ}
use Rattle.std.specs.Fmt.{signed_decimal}
use Rattle.std.specs.Str.{bytes_eq}
use Rattle.text_lines.specs.declared.refusal.Code.{Code}
use Rattle.text_lines.specs.declared.refusal.Code.TheVariants.{BadName, BadNumber, UnknownName, Reserved}
use Rattle.text_lines.specs.Number.{number_of}
pub use Rattle.text_lines.specs.Number.{begins_number}
use Rattle.task_code.specs.Names.{is_name, is_reserved, is_among}
use Rattle.task_code.specs.declared.code.Index.{Index}
use Rattle.task_code.specs.declared.code.Index.TheVariants as index
use Rattle.job_reader.specs.Faults.{both, made}

abbrev pub Word : Type 0
Word = List ℕ

abbrev pub Words : Type 0
Words = List Word

-- a reserved word is no name
abbrev pub named : Word → Result (Unit {0}) Code
named w = if is_reserved w then Err Reserved else if is_name w then Ok tt else Err BadName

abbrev pub or_bad_number : Option ℤ → Result ℤ Code
or_bad_number None = Err BadNumber
or_bad_number (Some n) = Ok n

-- the number that a word writes
abbrev pub numbered : Word → Result ℤ Code
numbered w = or_bad_number (number_of w)

-- the place at which a name is first, if the first one has this place
abbrev pub place_from : ℕ → List Word → Word → Option ℕ
place_from k [] w = None
place_from k (n ∷ ns) w = if bytes_eq n w then Some k else place_from (k + 1) ns w

abbrev pub or_unknown : Option ℕ → Result ℕ Code
or_unknown None = Err UnknownName
or_unknown (Some i) = Ok i

-- the place of a name among those that are declared
abbrev pub declared_at : List Word → Word → Result ℕ Code
declared_at names w = made (λ p. p.1) (both (named w) (or_unknown (place_from 0 names w)))

-- the name at a place
abbrev pub name_at : List Word → ℕ → Word
name_at names i = unwrap_or (slice_get names i) []

-- how an index is written
abbrev pub index_word : List Word → Index → Word
index_word locals (index.Number n) = signed_decimal n
index_word locals (index.Local i) = name_at locals i
index_word locals index.Arg = codes "arg"
index_word locals index.Step = codes "step"

-- the index that a word says
unfoldable pub index_of : List Word → Word → Result Index Code
index_of locals w =
    if begins_number w then made index.Number (numbered w)
    else if bytes_eq w (codes "arg") then Ok index.Arg
    else if bytes_eq w (codes "step") then Ok index.Step
    else made index.Local (declared_at locals w)

-- the local that the word of an index mentions, if any
unfoldable pub in_index : Word → List Word
in_index w = if begins_number w || bytes_eq w (codes "arg") || bytes_eq w (codes "step") then [] else w ∷ []

-- locals after mentions, each new one at the end
abbrev pub noted : List Word → List Word → List Word
noted locals [] = locals
noted locals (w ∷ ws) = noted (if is_among locals w then locals else locals ++ w ∷ []) ws

-- the locals of a body after words that mention locals: in format 1 each new one is noted, in format 2 all are listed
abbrev pub locals_behind : ℕ → List Word → List Word → List Word
locals_behind format locals words = if format == 1 then noted locals words else locals
