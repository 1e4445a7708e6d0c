-- What a text asks for, or its first refusal.
use Rattle.std.specs.Prelude.{ℕ, ◌+◌, Bool, false, not, ◌&&◌, ◌||◌, nat_lt, if◌then◌else◌, List, [], ◌∷◌, ◌++◌, length, Result, Ok, Err, codes}
use Rattle.std.specs.Str.{bytes_eq}
use Rattle.text_lines.specs.declared.refusal.Code.{Code}
use Rattle.text_lines.specs.declared.refusal.Code.TheVariants.{TooLong, BadHeader, TooMany}
use Rattle.text_lines.specs.declared.refusal.Refusal.{Refusal}
pub use Rattle.text_lines.specs.Reading.{◌>>=◌, at, unless_bad}
use Rattle.text_lines.specs.Limits.{most_bytes}
use Rattle.text_lines.specs.Text.{lines_of, words_of, is_skipped, bad_byte_line}
use Rattle.trace_text.specs.declared.words.PhaserCommand.{PhaserCommand}
use Rattle.trace_text.specs.declared.words.PhaserHead.{PhaserHead}
use Rattle.trace_text.specs.declared.tree_words.TreeCommand.{TreeCommand}
use Rattle.trace_text.specs.declared.barrier_words.BarrierCommand.{BarrierCommand}
use Rattle.trace_text.specs.declared.barrier_words.BarrierHead.{BarrierHead}
use Rattle.trace_text.specs.BarrierWords.{barrier_head_words, barrier_numbered, barrier_command_of}
use Rattle.trace_text.specs.Words.{Word, head_words, numbered, command_of}
use Rattle.trace_text.specs.TreeWords.{TreeAsked, tree_head_words, tree_numbered, tree_command_of, brings_token, made}

-- what a head asks for: a phaser, a tree or a barrier
pub data Head : Type 0 where
  OfPhaser : PhaserHead → Head
  OfTree : TreeAsked → Head
  OfBarrier : BarrierHead → Head

abbrev pub head_of : List Word → Result Head Code
head_of [] = Err BadHeader
head_of (w ∷ ws) =
    if bytes_eq w (codes "phaser") then made OfPhaser (numbered (head_words ws))
    else if bytes_eq w (codes "tree") then made OfTree (tree_numbered (tree_head_words ws))
    else if bytes_eq w (codes "barrier") then made OfBarrier (barrier_numbered (barrier_head_words ws))
    else Err BadHeader

-- a head, and the commands below it
pub data Asked : Type 0 where
  AsksPhaser : PhaserHead → List PhaserCommand → Asked
  AsksTree : TreeAsked → List TreeCommand → Asked
  AsksBarrier : BarrierHead → List BarrierCommand → Asked

-- no command of a phaser or of a barrier brings a token in
abbrev pub brings_none : {C : Type 0} → C → Bool
brings_none c = false

-- the most commands of a trace
abbrev pub most_commands : ℕ
most_commands = 4096

-- the most tokens of a trace
abbrev pub most_tokens : ℕ
most_tokens = 256

-- one more command after `count` commands, `tokens` of which bring a token, if the limits allow it
abbrev pub counted : {C : Type 0} → (C → Bool) → ℕ → ℕ → Result C Code → Result C Code
counted brings count tokens (Err code) = Err code
counted brings count tokens (Ok c) =
    if nat_lt count most_commands && (not (brings c) || nat_lt tokens most_tokens) then Ok c else Err TooMany

abbrev pub tokens_with : {C : Type 0} → (C → Bool) → ℕ → C → ℕ
tokens_with brings tokens c = if brings c then tokens + 1 else tokens

-- The commands of the lines from this number on, after `count` commands and `tokens` tokens; `says` gives what the words of a line say.
abbrev pub commands_from : {C : Type 0} → (List Word → Result C Code) → (C → Bool) → ℕ → ℕ → ℕ → List (List ℕ) → Result (List C) Refusal
commands_from says brings line count tokens [] = Ok []
commands_from says brings line count tokens (l ∷ ls) =
    if is_skipped (words_of l) then commands_from says brings (line + 1) count tokens ls
    else at line (counted brings count tokens (says (words_of l))) >>= λ c.
    commands_from says brings (line + 1) (count + 1) (tokens_with brings tokens c) ls >>= λ cs. Ok (c ∷ cs)

-- what the lines below a head ask for
abbrev pub below : Head → ℕ → List (List ℕ) → Result Asked Refusal
below (OfPhaser head) line ls = commands_from command_of brings_none line 0 0 ls >>= λ cs. Ok (AsksPhaser head cs)
below (OfTree head) line ls = commands_from tree_command_of brings_token line 0 0 ls >>= λ cs. Ok (AsksTree head cs)
below (OfBarrier head) line ls = commands_from barrier_command_of brings_none line 0 0 ls >>= λ cs. Ok (AsksBarrier head cs)

-- the head and the commands of the lines from this number on
abbrev pub asked_from : ℕ → List (List ℕ) → Result Asked Refusal
asked_from line [] = Err (record { line = line; code = BadHeader })
asked_from line (l ∷ ls) =
    if is_skipped (words_of l) then asked_from (line + 1) ls
    else at line (head_of (words_of l)) >>= λ head. below head (line + 1) ls

-- What a text asks for: its length is checked first, then its bytes, then line by line.
unfoldable pub asked_of : List ℕ → Result Asked Refusal
asked_of text =
    if nat_lt most_bytes (length text) then Err (record { line = 1; code = TooLong })
    else unless_bad (bad_byte_line 1 text) (asked_from 1 (lines_of text))

-- commands in front of those that are read
abbrev pub with_front : {C : Type 0} → List C → Result (List C) Refusal → Result (List C) Refusal
with_front front read = read >>= λ cs. Ok (front ++ cs)
