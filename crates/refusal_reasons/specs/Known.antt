-- The names that are known at a line of a text (own).
use Rattle.std.specs.Prelude.{ℕ, ◌+◌, ◌-◌, Bool, false, ◌||◌, if◌then◌else◌, List, [], ◌∷◌, ◌++◌, length, take, flat_map, fold, codes, Some, None, slice_get, unwrap_or}
use Rattle.std.specs.Str.{bytes_eq}
use Rattle.text_lines.specs.Text.{is_skipped, words_of}
use Rattle.job_reader.specs.Words.{Words}
use Rattle.refusal_reasons.specs.Marks.{Known}

-- the name that the line of an array declares
abbrev pub arrays_on : Words → Words
arrays_on [] = []
arrays_on (k ∷ ws) = if bytes_eq k (codes "array") then take 1 ws else []

-- the lines above the one of this number, from 1
abbrev pub above : ℕ → List (List ℕ) → List (List ℕ)
above n lines = take (n - 1) lines

-- the arrays that these lines declare
abbrev pub arrays_in : List (List ℕ) → Words
arrays_in lines = flat_map (λ l. arrays_on (words_of l)) lines

-- whether a line is the first of a body
abbrev pub begins_body : Words → Bool
begins_body [] = false
begins_body (w ∷ ws) = bytes_eq w (codes "body")

-- the last of these lines that is the first of a body, or else another
abbrev pub last_body : List ℕ → List (List ℕ) → List ℕ
last_body other lines = fold (λ last l. if begins_body (words_of l) then l else last) other lines

-- the locals that the first line of a body lists
abbrev pub locals_on : Words → Words
locals_on (k ∷ b ∷ ws) = ws
locals_on _ = []

-- whether a text is of format 1, in which a local needs no list
abbrev pub says_one : Words → Bool
says_one (k ∷ n ∷ ws) = bytes_eq n (codes "1")
says_one _ = false

abbrev pub is_first : List (List ℕ) → Bool
is_first [] = false
is_first (l ∷ ls) = if is_skipped (words_of l) then is_first ls else says_one (words_of l)

abbrev pub known_at : ℕ → List (List ℕ) → Known
known_at n lines = record {
  arrays = arrays_in (above n lines);
  locals = if is_first lines then None else Some (locals_on (words_of (last_body [] (above n lines))));
}

-- whether a line that begins so opens a block
abbrev pub opens : List ℕ → Bool
opens w = bytes_eq w (codes "body") || (bytes_eq w (codes "if") || bytes_eq w (codes "while"))

-- the lines whose blocks are open, outermost first, after the line of this number
abbrev pub opening : ℕ → List ℕ → Words → List ℕ
opening n blocks [] = blocks
opening n blocks (k ∷ ws) =
    if opens k then blocks ++ n ∷ [] else if bytes_eq k (codes "end") then take (length blocks - 1) blocks else blocks

-- the same after these lines, of which the first has this number
abbrev pub open_after : ℕ → List ℕ → List (List ℕ) → List ℕ
open_after n blocks [] = blocks
open_after n blocks (l ∷ ls) = open_after (n + 1) (opening n blocks (words_of l)) ls

-- the innermost of them above a line, or 0
abbrev pub innermost : List ℕ → ℕ
innermost blocks = unwrap_or (slice_get blocks (length blocks - 1)) 0

abbrev pub open_block : ℕ → List (List ℕ) → ℕ
open_block n lines = innermost (open_after 1 [] (above n lines))
