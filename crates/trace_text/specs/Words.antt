-- The words of a line of a trace, and what they ask for.
use Rattle.std.specs.Prelude.{ℕ, ◌^◌, nat_le, nat_lt, if◌then◌else◌, List, [], ◌∷◌, Option, None, Some, option_and_then, option_map, Result, Ok, Err, ℤ, pos, negsuc, codes}
use Rattle.std.specs.Str.{bytes_eq}
use Rattle.text_lines.specs.declared.refusal.Code.{Code}
use Rattle.text_lines.specs.declared.refusal.Code.TheVariants.{UnknownLine, BadNumber, BadLine}
use Rattle.text_lines.specs.Number.{number_of}
pub use Rattle.text_lines.specs.Number.{begins_number}
use Rattle.phaser_one.specs.declared.call.Call.TheVariants as call
use Rattle.trace_text.specs.declared.words.PhaserCommand.{PhaserCommand}
use Rattle.trace_text.specs.declared.words.PhaserCommand.TheVariants.{Call, Show}
use Rattle.trace_text.specs.declared.words.PhaserHead.{PhaserHead}
use Rattle.trace_text.specs.declared.words.Form.{Form}
use Rattle.trace_text.specs.declared.words.Form.TheVariants.{Alone, Bulk, Await}

-- a word, by its bytes
abbrev pub Word : Type 0
Word = List ℕ

-- a whole number from 0 to a greatest
abbrev pub up_to : ℕ → Option ℤ → Option ℕ
up_to most None = None
up_to most (Some (negsuc n)) = None
up_to most (Some (pos n)) = if nat_le n most then Some n else None

-- a number of 32 signed bits
abbrev pub of_32_bits : Option ℤ → Option ℤ
of_32_bits None = None
of_32_bits (Some (pos n)) = if nat_lt n (2 ^ 31) then Some (pos n) else None
of_32_bits (Some (negsuc n)) = if nat_lt n (2 ^ 31) then Some (negsuc n) else None

-- A head in words: the parties, then the phase if the next word begins as a number does, then `least` and `at` with the word after each.
pub record HeadWords : Type 0 where
  pub parties : Word
  pub phase : Option Word
  pub least : Option Word
  pub at : Option Word

-- a word that begins as a number, if it comes next, and what follows
abbrev pub take_number : List Word → Option Word × List Word
take_number [] = (None, [])
take_number (w ∷ ws) = if begins_number w then (Some w, ws) else (None, w ∷ ws)

-- the word after a keyword, if the keyword comes next, and what follows; nothing if there is no such word
abbrev pub take_behind : List ℕ → List Word → Option (Option Word × List Word)
take_behind keyword [] = Some (None, [])
take_behind keyword (w ∷ []) = if bytes_eq w keyword then None else Some (None, w ∷ [])
take_behind keyword (w ∷ v ∷ ws) = if bytes_eq w keyword then Some (Some v, ws) else Some (None, w ∷ v ∷ ws)

-- the end of a line
abbrev pub ended : {A : Type 0} → A → List Word → Option A
ended a [] = Some a
ended a (w ∷ ws) = None

abbrev pub words_after : Word → Option Word × List Word → Option HeadWords
words_after parties phase =
    option_and_then (λ least. option_and_then (λ at.
    ended (record { parties = parties; phase = phase.0; least = least.0; at = at.0 }) at.1)
    (take_behind (codes "at") least.1))
    (take_behind (codes "least") phase.1)

abbrev pub head_words : List Word → Option HeadWords
head_words [] = None
head_words (w ∷ ws) = words_after w (take_number ws)

-- a number that may be left out
abbrev pub number_or : ℕ → ℕ → Option Word → Option ℕ
number_or most default None = Some default
number_or most default (Some w) = up_to most (number_of w)

abbrev pub number_if : ℕ → Option Word → Option (Option ℕ)
number_if most None = Some None
number_if most (Some w) = option_map Some (up_to most (number_of w))

-- The head that its words give: any number of parties, a phase or 0, the fewest parties with which it goes on or 1, and the phase after
-- which it ends.
abbrev pub head_numbers : HeadWords → Option PhaserHead
head_numbers h =
    option_and_then (λ parties. option_and_then (λ phase. option_and_then (λ least. option_and_then (λ at.
    Some (record { parties = parties; phase = phase; plan = record { least = least; at = at } }))
    (number_if 2147483647 h.at))
    (number_or 65536 1 h.least))
    (number_or 2147483647 0 h.phase))
    (number_of h.parties)

abbrev pub or_else : {A : Type 0} → Code → Option A → Result A Code
or_else code None = Err code
or_else code (Some a) = Ok a

-- too few, too many or misplaced words are reported before numbers
abbrev pub numbered : Option HeadWords → Result PhaserHead Code
numbered None = Err BadLine
numbered (Some h) = or_else BadNumber (head_numbers h)

-- what the first word of a command asks for: a command alone, or one with a number
abbrev pub form_of : Word → Option Form
form_of w =
    if bytes_eq w (codes "register") then Some (Alone (Call call.Register))
    else if bytes_eq w (codes "bulk") then Some Bulk
    else if bytes_eq w (codes "arrive") then Some (Alone (Call call.Arrive))
    else if bytes_eq w (codes "leave") then Some (Alone (Call call.Leave))
    else if bytes_eq w (codes "await") then Some Await
    else if bytes_eq w (codes "force") then Some (Alone (Call call.Force))
    else if bytes_eq w (codes "show") then Some (Alone Show)
    else None

abbrev pub formed : Option Form → List Word → Result PhaserCommand Code
formed None ws = Err UnknownLine
formed (Some (Alone c)) [] = Ok c
formed (Some Bulk) (w ∷ []) = or_else BadNumber (option_map (λ n. Call (call.Bulk n)) (number_of w))
formed (Some Await) (w ∷ []) = or_else BadNumber (option_map (λ n. Call (call.Await n)) (of_32_bits (number_of w)))
formed _ _ = Err BadLine

abbrev pub command_of : List Word → Result PhaserCommand Code
command_of [] = Err UnknownLine
command_of (w ∷ ws) = formed (form_of w) ws
