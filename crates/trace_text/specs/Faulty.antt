-- The word of a line of a trace that is no number, or none of its range (own). Words are numbered from 0.
use Rattle.std.specs.Prelude.{◌≡◌, ℕ, ◌+◌, Bool, true, false, not, ◌||◌, if◌then◌else◌, List, [], ◌∷◌, Option, None, Some, is_some, IsSome, Err, codes}
use Rattle.std.specs.Str.{bytes_eq}
use Rattle.text_lines.specs.Number.{begins_number, number_of}
use Rattle.text_lines.specs.Text.{is_skipped, lines_of, words_of}
use Rattle.text_lines.specs.declared.refusal.Code.TheVariants.{BadNumber}
use Rattle.trace_text.specs.Words.{Word, command_of, of_32_bits, up_to}
use Rattle.trace_text.specs.TreeWords.{above_zero, most_members, tree_command_of}
use Rattle.trace_text.specs.BarrierWords.{barrier_command_of, not_below_zero}

-- whether a word is a whole number from 0 to a greatest
abbrev pub fits : ℕ → Word → Bool
fits most w = is_some (up_to most (number_of w))

-- whether a word may be the value of an option of a head, if the word before it is one
abbrev pub option_fits : Word → Word → Bool
option_fits option w =
    if bytes_eq option (codes "least") then fits 65536 w
    else if bytes_eq option (codes "at") then fits 2147483647 w
    else if bytes_eq option (codes "fails") then is_some (not_below_zero (number_of w))
    else true

-- the first of the words that doesn't fit the word before it; the first has this number
abbrev pub value_fault : Word → ℕ → List Word → Option ℕ
value_fault before n [] = None
value_fault before n (w ∷ ws) = if option_fits before w then value_fault w (n + 1) ws else Some n

-- whether the next word is no phase that is too great
abbrev pub phase_fits : List Word → Bool
phase_fits [] = true
phase_fits (w ∷ ws) = not (begins_number w) || fits 2147483647 w

-- a head: a tree has widths, and others have a number of parties
abbrev pub head_fault : Word → List Word → Option ℕ
head_fault k [] = None
head_fault k (w ∷ ws) =
    if not (bytes_eq k (codes "tree") || is_some (number_of w)) then Some 1
    else if not (phase_fits ws) then Some 2
    else value_fault [] 2 ws

-- the tier and the members of a join
abbrev pub join_fault : List Word → Option ℕ
join_fault (j ∷ t ∷ n ∷ ws) =
    if not (fits 4294967295 t) then Some 3 else if is_some (above_zero (up_to most_members (number_of n))) then None else Some 4
join_fault _ = None

-- whether a word may be the number behind the first word of a command
abbrev pub number_fits : Bool → Word → Word → Bool
number_fits false k w = fits 4294967295 w
number_fits true k w = if bytes_eq k (codes "await") then is_some (of_32_bits (number_of w)) else is_some (number_of w)

-- a command of a phaser, or of a tree or a barrier
abbrev pub command_fault : Bool → Word → List Word → Option ℕ
command_fault of_phaser k [] = None
command_fault of_phaser k (w ∷ ws) = if number_fits of_phaser k w then join_fault ws else Some 1

abbrev pub is_head : Word → Bool
is_head w = bytes_eq w (codes "phaser") || (bytes_eq w (codes "tree") || bytes_eq w (codes "barrier"))

abbrev pub line_fault : Bool → List Word → Option ℕ
line_fault of_phaser [] = None
line_fault of_phaser (k ∷ ws) = if is_head k then head_fault k ws else command_fault of_phaser k ws

-- whether a trace is one of a phaser, by its first line that isn't skipped
abbrev pub begins_phaser : List Word → Bool
begins_phaser [] = false
begins_phaser (w ∷ ws) = bytes_eq w (codes "phaser")

abbrev pub is_of_phaser : List (List ℕ) → Bool
is_of_phaser [] = false
is_of_phaser (l ∷ ls) = if is_skipped (words_of l) then is_of_phaser ls else begins_phaser (words_of l)

-- the word of a line of this trace
abbrev pub faulty_number : List ℕ → List ℕ → Option ℕ
faulty_number text line = line_fault (is_of_phaser (lines_of text)) (words_of line)

-- If the words of a command are refused by a number, one of them is found.
abbrev pub NumberFaultsAreFound : Type 0
NumberFaultsAreFound =
    (k : Word) (ws : List Word)
    → (command_of (k ∷ ws) ≡ Err BadNumber → IsSome (command_fault true k ws))
    × (tree_command_of (k ∷ ws) ≡ Err BadNumber → IsSome (command_fault false k ws))
    × (barrier_command_of (k ∷ ws) ≡ Err BadNumber → IsSome (command_fault false k ws))

-- Words that are found, worked out by hand.
pub record NumbersAreWorkedOut : Type 0 where
  pub least : line_fault true (codes "phaser" ∷ codes "1" ∷ codes "least" ∷ codes "70000" ∷ []) ≡ Some 3
  pub at : line_fault true (codes "phaser" ∷ codes "1" ∷ codes "5" ∷ codes "at" ∷ codes "99999999999" ∷ []) ≡ Some 4
  pub phase : line_fault false (codes "tree" ∷ codes "2" ∷ codes "2147483648" ∷ codes "keep" ∷ []) ≡ Some 2
  pub parties : line_fault false (codes "barrier" ∷ codes "x" ∷ []) ≡ Some 1
  pub fails : line_fault false (codes "barrier" ∷ codes "3" ∷ codes "fails" ∷ codes "-1" ∷ []) ≡ Some 3
  pub awaited : line_fault true (codes "await" ∷ codes "2147483648" ∷ []) ≡ Some 1
  pub members : line_fault false (codes "begin" ∷ codes "0" ∷ codes "join" ∷ codes "0" ∷ codes "70000" ∷ []) ≡ Some 4
  pub tier : line_fault false (codes "do" ∷ codes "0" ∷ codes "join" ∷ codes "-1" ∷ codes "1" ∷ []) ≡ Some 3
  pub token : line_fault false (codes "go" ∷ codes "4294967296" ∷ []) ≡ Some 1
