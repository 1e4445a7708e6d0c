-- The words of a line of a trace of a barrier, and what they ask for (own).
use Rattle.std.specs.Prelude.{ℕ, if◌then◌else◌, List, [], ◌∷◌, Option, None, Some, option_and_then, option_map, Result, Ok, Err, ℤ, pos, negsuc, codes}
use Rattle.std.specs.Str.{bytes_eq}
use Rattle.text_lines.specs.declared.refusal.Code.{Code}
use Rattle.text_lines.specs.declared.refusal.Code.TheVariants.{UnknownLine, BadNumber, BadLine}
use Rattle.text_lines.specs.Number.{number_of}
use Rattle.cyclic_gate.specs.declared.call.Call.TheVariants as call
use Rattle.trace_text.specs.declared.barrier_words.BarrierCommand.{BarrierCommand}
use Rattle.trace_text.specs.declared.barrier_words.BarrierCommand.TheVariants.{Call, Show}
use Rattle.trace_text.specs.declared.barrier_words.BarrierHead.{BarrierHead}
use Rattle.trace_text.specs.declared.barrier_words.Form.{Form}
use Rattle.trace_text.specs.declared.barrier_words.Form.TheVariants.{Await, Abandon, Alone}
use Rattle.trace_text.specs.Words.{Word, take_behind, ended, or_else}
use Rattle.trace_text.specs.TreeWords.{one_number, made}

-- a head in words: the parties, then `fails` with the word after it
pub record BarrierHeadWords : Type 0 where
  pub parties : Word
  pub fails : Option Word

abbrev pub words_behind : Word → Option (Option Word × List Word) → Option BarrierHeadWords
words_behind parties fails = option_and_then (λ f. ended (record { parties = parties; fails = f.0 }) f.1) fails

abbrev pub barrier_head_words : List Word → Option BarrierHeadWords
barrier_head_words [] = None
barrier_head_words (w ∷ ws) = words_behind w (take_behind (codes "fails") ws)

-- a whole number from 0
abbrev pub not_below_zero : Option ℤ → Option ℕ
not_below_zero None = None
not_below_zero (Some (pos n)) = Some n
not_below_zero (Some (negsuc n)) = None

abbrev pub generation_if : Option Word → Option (Option ℕ)
generation_if None = Some None
generation_if (Some w) = option_map Some (not_below_zero (number_of w))

-- The head that its words give: any number of parties, and a generation of 0 to 9223372036854775807 in which the action fails, or none.
abbrev pub barrier_head_numbers : BarrierHeadWords → Option BarrierHead
barrier_head_numbers h =
    option_and_then (λ parties. option_and_then (λ fails. Some (record { parties = parties; fails = fails })) (generation_if h.fails))
    (number_of h.parties)

-- too few, too many or misplaced words are reported before numbers
abbrev pub barrier_numbered : Option BarrierHeadWords → Result BarrierHead Code
barrier_numbered None = Err BadLine
barrier_numbered (Some h) = or_else BadNumber (barrier_head_numbers h)

-- what the first word of a command asks for
abbrev pub barrier_form_of : Word → Option Form
barrier_form_of w =
    if bytes_eq w (codes "await") then Some Await
    else if bytes_eq w (codes "abandon") then Some Abandon
    else if bytes_eq w (codes "break") then Some (Alone (Call call.BreakOff))
    else if bytes_eq w (codes "reset") then Some (Alone (Call call.Reset))
    else if bytes_eq w (codes "show") then Some (Alone Show)
    else None

-- a caller is a number of 0 to 4294967295
abbrev pub barrier_formed : Option Form → List Word → Result BarrierCommand Code
barrier_formed None ws = Err UnknownLine
barrier_formed (Some Await) ws = made (λ c. Call (call.Await c)) (one_number ws)
barrier_formed (Some Abandon) ws = made (λ c. Call (call.Abandon c)) (one_number ws)
barrier_formed (Some (Alone c)) [] = Ok c
barrier_formed (Some (Alone c)) (w ∷ ws) = Err BadLine

abbrev pub barrier_command_of : List Word → Result BarrierCommand Code
barrier_command_of [] = Err UnknownLine
barrier_command_of (w ∷ ws) = barrier_formed (barrier_form_of w) ws
